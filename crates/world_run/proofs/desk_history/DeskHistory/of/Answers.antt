-- A store's history is local.
use Rattle.std.proofs.Common.{arith, subst, length, ◌≤◌}
use Rattle.local_store.specs.Consistent.{IsConsistent}
use Rattle.local_store.specs.State.{StoreState}
use Rattle.world_run.specs.inner.Readable.{IsReadable}
use Rattle.world_run.proofs.desk_history.DeskHistory.of.Goals as goal

pub invariant_of-result : goal.invariant_of-result
invariant_of-result c =
    let s : StoreState = c.store.result.now in
    let is : IsConsistent s = c.is_consistent.ensures in
    let few : length s.entries ≤ 4294967295 = omega (arith, is.few) in
    let readable : IsReadable s.entries = record { rises = c.local_stamps_rise.ensures s.protocol s.role s.entries is.local; few = few } in
    record { readable = subst (λ (t : StoreState). IsReadable t.entries) c.store.ensures readable }
