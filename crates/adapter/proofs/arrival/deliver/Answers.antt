-- The inbox alone changes, and what it has more is for the role.
use Rattle.std.proofs.Common.{subst, sym}
use Rattle.adapter.proofs.InboxLemmas.{after_put, with_inbox}
use Rattle.adapter.specs.Desk.{DeskState}
use Rattle.adapter.specs.Kept.{IsKept}
use Rattle.adapter.proofs.arrival.deliver.Goals as goal

pub returns-clause-kept : goal.returns-clause-kept
returns-clause-kept c =
    let job = c.args.job.now in
    let role = c.args.desk.now.store.role in
    let old : DeskState = record { store = c.desk.inside.store; inbox = c.desk.inside.inbox } in
    let kept : IsKept job role old = subst (IsKept job role) (sym c.desk.view_is) c.requires.kept in
    with_inbox job role old c.put.new.self kept
    (after_put job role old.inbox c.put.new.self c.args.e c.put.result kept.inbox c.requires.own c.put.ensures.ok c.put.ensures.err)
