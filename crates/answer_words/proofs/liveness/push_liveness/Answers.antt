-- The words of each verdict; a right one that refutes has blocked producers.
use Rattle.std.proofs.Common.{List, length, refl, subst, sym}
use Rattle.std.proofs.lemmas.Result.{on_ok_weaker}
use Rattle.bspl_types.specs.declared.event.Event.{Event}
use Rattle.bspl_types.specs.History.{IsRun}
use Rattle.answer_words.specs.Producers.{AreBlocked}
use Rattle.answer_words.specs.Safety.{undecided_words}
use Rattle.answer_words.proofs.NamedLemmas.{not_live_of}
use Rattle.answer_words.proofs.liveness.push_liveness.Goals as goal
use Rattle.answer_words.specs.declared.wording.verdicts.TheConstants as verdicts

pub push_not_live-requires-clause-fits : goal.push_not_live-requires-clause-fits
push_not_live-requires-clause-fits c =
    let found = c.in-NotLive in
    subst (λ (run : List Event). IsRun c.args.x.now run) (sym c.as_slice.ensures) (not_live_of c.args.x.now found.run' found.param c.requires.right.0 c.args.liveness.now found.is c.requires.right.1).legal.fits

pub push_not_live-requires-clause-blocked : goal.push_not_live-requires-clause-blocked
push_not_live-requires-clause-blocked c =
    let found = c.in-NotLive in
    subst (λ (run : List Event). AreBlocked c.args.x.now run found.param) (sym c.as_slice.ensures) (c.producers_are_blocked.ensures c.args.x.now found.run' found.param (not_live_of c.args.x.now found.run' found.param c.requires.right.0 c.args.liveness.now found.is c.requires.right.1))

pub returns-in-Live : goal.returns-in-Live
returns-in-Live c =
    rw c.in-Live.is (on_ok_weaker c.append.result (λ grown. record { added = verdicts.LIVE.now; grown = grown; holds = refl }) c.append.ensures.ok)

pub returns-in-NotLive : goal.returns-in-NotLive
returns-in-NotLive c = rw c.in-NotLive.is (rw c.as_slice.ensures at c.push_not_live.ensures)

pub returns-in-Undecided : goal.returns-in-Undecided
returns-in-Undecided c =
    rw c.in-Undecided.is (on_ok_weaker c.push_undecided.result (λ grown. record { added = undecided_words verdicts.LIVENESS.now (length c.in-Undecided.log.steps); grown = grown; holds = refl }) (rw c.len.ensures at c.push_undecided.ensures))
