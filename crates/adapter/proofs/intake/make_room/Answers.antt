-- The inbox has more room, and the envelopes that it had.
use Rattle.std.proofs.Common.{subst, sym, All}
use Rattle.adapter.specs.Desk.{DeskState}
use Rattle.adapter.specs.Kept.{IsFor, IsKept}
use Rattle.adapter.proofs.InboxLemmas.{with_inbox}
use Rattle.adapter.proofs.intake.make_room.Goals as goal

pub returns-clause-kept : goal.returns-clause-kept
returns-clause-kept c =
    let job = c.args.job.now in
    let role = c.args.desk.now.store.role in
    let old : DeskState = record { store = c.desk.inside.store; inbox = c.desk.inside.inbox } in
    let kept : IsKept job role old = subst (IsKept job role) (sym c.desk.view_is) c.requires.kept in
    with_inbox job role old c.reserve.new.self kept (subst (All (IsFor job role)) (sym c.reserve.ensures.same) kept.inbox)
