-- The entries of the places before are restored.
use Rattle.std.proofs.Common.{◌≡◌, ◌≤◌, ◌+◌, length}
use Rattle.durable_store.specs.inner.Begun.{IsBegun, IsOfSame}
use Rattle.durable_store.specs.inner.Gates.{IsLeftAlone}
use Rattle.durable_store.proofs.restoring.restore_entries.Given as goal

abbrev pub invariant-loop-place : goal.invariant-loop-place
invariant-loop-place g l =
    let disk = g.D.Disk in
    record {
      same : IsOfSame l.fn.store l.store;
      begun : IsBegun (disk.seen l.fn.disk) l.store;
      here : l.place ≡ length l.store.entries;
      alone : IsLeftAlone disk.seen disk.may_leave disk.clock disk.left_since l.fn.disk l.disk;
      soon : disk.clock l.disk ≤ disk.clock l.fn.disk + (l.place + l.place);
      still : disk.counts l.disk ≡ disk.counts l.fn.disk;
    }
