-- What the loop of `write_all` keeps, and why it ends.
use Rattle.std.proofs.Common.{◌≡◌, ◌≤◌, ◌-◌, length, take}
use Rattle.std.specs.Io.KnownBytes.{Appends}
use Rattle.bspl_io.proofs.sink.write_all.Given as goal

-- the bytes before `done` were appended, and no fault was counted
abbrev pub invariant-loop-done : goal.invariant-loop-done
invariant-loop-done g l = record {
  within : l.done ≤ length l.bytes;
  appended : Appends (g.W.Sink.contents l.fn.sink) (g.W.Sink.contents l.sink) (take l.done l.bytes);
  still : g.W.Sink.faults l.sink ≡ g.W.Sink.faults l.fn.sink;
}

-- the bytes that are not written yet
abbrev pub decreases-loop-done : goal.decreases-loop-done
decreases-loop-done g l = length l.bytes - l.done
