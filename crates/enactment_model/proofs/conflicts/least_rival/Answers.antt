-- The first parameter with a rival, or none has one.
use Rattle.std.proofs.Common.{below_more, arith}
use Rattle.enactment_model.specs.Safety.{Conflict}
use Rattle.enactment_model.proofs.ConflictLemmas.{at_least, known_param}
use Rattle.enactment_model.proofs.conflicts.least_rival.Goals as goal

pub returns-in-Some : goal.returns-in-Some
returns-in-Some c =
    let x = c.args.x.now in
    let run = c.args.run.now in
    record {
      rival = c.in-Some.ensures;
      least = λ key p first conflict. at_least (λ q. Conflict x run key q first c.args.second) c.loop-param.param (λ q below. c.loop-param.invariant q below key first) p conflict;
    }

pub loop-param-preserved : goal.loop-param-preserved
loop-param-preserved c = below_more _ _ c.loop-param.invariant c.in_default.ensures

pub returns : goal.returns
returns c p key first conflict =
    c.loop-param.invariant p (omega (arith, known_param c.args.x.now c.args.run.now key p first conflict.first_produces)) key first conflict
