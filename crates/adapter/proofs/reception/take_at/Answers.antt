-- The envelope is for the role, and whatever the store answers, the desk is kept.
use Rattle.std.proofs.Common.{subst, sym}
use Rattle.std.proofs.lemmas.List.Elements.{All-contains}
use Rattle.list_base.proofs.Membership.{member_at}
use Rattle.adapter.specs.Desk.{DeskState}
use Rattle.adapter.specs.Kept.{IsFor, IsKept}
use Rattle.adapter.proofs.TakingLemmas.{awaited, taken_kept}
use Rattle.adapter.proofs.reception.take_at.Goals as goal

pub receive-requires : goal.receive-requires
receive-requires c =
    let job = c.args.job.now in
    let role = c.args.desk.now.store.role in
    let old : DeskState = record { store = c.desk.inside.store; inbox = c.desk.inside.inbox } in
    let kept : IsKept job role old = subst (IsKept job role) (sym c.desk.view_is) c.requires.kept in
    let e = c.at-envelope.result.now in
    let is : IsFor job role e = All-contains (IsFor job role) old.inbox.envelopes e kept.inbox (member_at old.inbox.envelopes c.args.index e c.at-envelope.ensures.item) in
    awaited job role old e kept is

pub returns-clause-kept : goal.returns-clause-kept
returns-clause-kept c =
    let job = c.args.job.now in
    let role = c.args.desk.now.store.role in
    let old : DeskState = record { store = c.desk.inside.store; inbox = c.desk.inside.inbox } in
    let kept : IsKept job role old = subst (IsKept job role) (sym c.desk.view_is) c.requires.kept in
    let e = c.at-envelope.result.now in
    taken_kept c.played_grows.ensures c.equal_values_are_one.ensures.lists job role old c.args.index e c.in_ok-receipt.receipt c.receive.new.store c.spend.new.inbox kept
    c.at-envelope.ensures.item c.in_ok-receipt.ensures.received c.in_ok-receipt.ensures.consistent (c.spend.ensures e c.at-envelope.ensures.item)
