-- The places before are closed.
use Rattle.std.proofs.Common.{◌≡◌, ◌≤◌, ◌+◌, ◌-◌}
use Rattle.durable_store.specs.inner.Gates.{AreClosed, IsLeftAlone}
use Rattle.durable_store.proofs.places.first_open.Given as goal

abbrev pub invariant-loop-place : goal.invariant-loop-place
invariant-loop-place g l =
    let disk = g.D.Disk in
    record {
      closed : AreClosed (disk.seen l.fn.disk) l.from l.place;
      alone : IsLeftAlone disk.seen disk.may_leave disk.clock disk.left_since l.fn.disk l.disk;
      soon : disk.clock l.disk + (l.count - l.place) ≤ disk.clock l.fn.disk + (l.count - l.from);
      still : disk.counts l.disk ≡ disk.counts l.fn.disk;
    }
