-- A receipt may come exactly if the emission that it waits for is merged.
use Rattle.std.proofs.Common.{ap, get_or, nat_lt, subst, sym}
use Rattle.std.specs.Prelude.{MatchBool}
use Rattle.std.proofs.lemmas.Option.{get_or_from_slice_get}
use Rattle.bspl_types.specs.declared.event.Event.{Event}
use Rattle.bspl_types.specs.declared.protocol.Message.{Message}
use Rattle.bspl_types.specs.Expansion.{no_message}
use Rattle.history_audit.specs.inner.Merging.{IsHeldBack, MayCome}
use Rattle.history_audit.specs.inner.Waits.{IsWait}
use Rattle.history_audit.proofs.MergeLemmas.{come_or_held}
use Rattle.history_audit.proofs.merged_run.may_come.Goals as goal

pub returns-in-Receive : goal.returns-in-Receive
returns-in-Receive c = λ histories is_wait within.
    let x = c.args.x.now in
    let cursors = c.args.cursors.now in
    let i = c.in-Receive.instance in
    let cursor = get_or cursors c.at.result.now.sender 0 in
    let same = ap (λ (m : Message). get_or cursors m.sender 0) (sym (get_or_from_slice_get x.messages i.message c.at.result.now no_message c.at.ensures)) in
    subst (λ (e : Event). MatchBool (nat_lt c.args.wait cursor) (MayCome x histories cursors e) (IsHeldBack x histories cursors e)) (sym c.in-Receive.is)
    (come_or_held x histories cursors i c.args.wait cursor same (subst (λ (e : Event). IsWait x histories e c.args.wait) c.in-Receive.is is_wait) within)
