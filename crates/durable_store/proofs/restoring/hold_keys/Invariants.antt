-- The keys before the index are held.
use Rattle.std.proofs.Common.{◌≡◌, ◌≤◌, length, take}
use Rattle.durable_store.specs.Start.{HoldsKeys}
use Rattle.durable_store.proofs.restoring.hold_keys.Given as goal

abbrev pub invariant-loop-key : goal.invariant-loop-key
invariant-loop-key l = record {
  held : HoldsKeys l.store.keys (take l.key-index l.keys);
  same : l.store ≡ record l.fn.store { keys = l.store.keys };
  few : length l.store.keys ≤ l.key-index;
}
