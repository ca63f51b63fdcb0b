-- The desk has the parts that were made.
use Rattle.std.proofs.Common.{◌≡◌, arith, ap, ◌∙◌, subst, sym}
use Rattle.adapter.specs.Desk.{DeskState}
use Rattle.local_store.specs.Consistent.{IsConsistent}
use Rattle.world_run.proofs.OpenLemmas.{opened}
use Rattle.world_run.proofs.opened_desks.open_desk.Goals as goal

pub returns : goal.returns
returns c =
    let d : DeskState = c.of.result in
    let store_is : d.store ≡ c.in_ok-store.store = ap (λ (e : DeskState). e.store) c.of.ensures in
    let inbox_is : d.inbox ≡ c.in_ok-inbox.inbox = ap (λ (e : DeskState). e.inbox) c.of.ensures in
    opened c.args.job.now c.args.role d
    (subst IsConsistent (sym store_is) c.is_consistent.ensures)
    (store_is ∙ c.in_ok-store.ensures)
    (ap (λ b. b.envelopes) inbox_is ∙ c.in_ok-inbox.ensures.empty)
    (omega (arith, ap (λ b. b.spare) inbox_is, c.in_ok-inbox.ensures.room))
