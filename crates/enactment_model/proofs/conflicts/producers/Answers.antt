-- The first position with a rival, or none has one.
use Rattle.std.proofs.Common.{below_more, refl, true≢false, arith}
use Rattle.enactment_model.specs.Safety.{Conflict}
use Rattle.enactment_model.proofs.ConflictLemmas.{at_least, producer_within}
use Rattle.enactment_model.proofs.conflicts.producers.Goals as goal

pub returns-in-Some-clause-none : goal.returns-in-Some-clause-none
returns-in-Some-clause-none c =
    let rival = c.in-Some.ensures.rival in
    (λ wrong. absurd (true≢false wrong), λ none. absurd (none rival.key c.in-Some.param c.in-Some.first c.loop-second.second rival.conflict))

pub returns-in-Some-clause-least : goal.returns-in-Some-clause-least
returns-in-Some-clause-least c =
    let found = c.in-Some.ensures in
    record {
      key = found.rival.key;
      first = c.in-Some.first;
      second = c.loop-second.second;
      first_is = refl;
      second_is = refl;
      conflict = found.rival.conflict;
      least_second = λ key p first second conflict. at_least (λ k. Conflict c.args.x.now c.args.run.now key p first k) c.loop-second.second (λ k below. c.loop-second.invariant k below p key first) second conflict;
      least_param = found.least;
      least_first = found.rival.least;
    }

pub loop-second-preserved : goal.loop-second-preserved
loop-second-preserved c = below_more _ _ c.loop-second.invariant c.in_default.ensures

pub returns-clause-none : goal.returns-clause-none
returns-clause-none c = (
  λ _ key p first second conflict. c.loop-second.invariant second (omega (arith, producer_within c.args.x.now c.args.run.now key p second conflict.second_produces)) p key first conflict,
  λ _. refl,
)
