-- The index is a number of 32 bits, and the parts are those of the entry.
use Rattle.std.proofs.Common.{arith, subst, ◌≡◌, ℕ, Some, slice_get}
use Rattle.bspl_types.specs.declared.event.Event.{Event}
use Rattle.local_store.specs.State.{numbers, stamped_events, StoreState}
use Rattle.world_run.proofs.EntryLemmas.{entry_at}
use Rattle.world_run.proofs.desk_history.DeskHistoryHistory.entry.Goals as goal

pub overflow_cast-i : goal.overflow_cast-i
overflow_cast-i c = omega (arith, c.requires, c.args.self.now.readable.few)

pub overflow_cast-i-2 : goal.overflow_cast-i-2
overflow_cast-i-2 c = omega (arith, c.requires, c.args.self.now.readable.few)

pub returns : goal.returns
returns c =
    let s : StoreState = c.args.self.now.desk.now.store in
    let at : slice_get {X = Event × ℕ} (stamped_events s) c.args.i ≡ Some c.event-event.result = subst (λ (t : StoreState). slice_get {X = Event × ℕ} (stamped_events t) c.args.i ≡ Some c.event-event.result) c.store-store.ensures c.event-event.ensures in
    let number : slice_get {X = ℕ} (numbers s) c.args.i ≡ Some c.number.result = subst (λ (t : StoreState). slice_get {X = ℕ} (numbers t) c.args.i ≡ Some c.number.result) c.store-store.ensures c.number.ensures in
    entry_at s.entries c.args.i c.event-event.result.0 c.event-event.result.1 c.number.result at number
