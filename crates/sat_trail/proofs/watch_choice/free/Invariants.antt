-- No literal that was passed is free.
use Rattle.std.proofs.Common.{take}
use Rattle.sat_trail.specs.inner.Attach.{AreNotFree}
use Rattle.sat_trail.proofs.watch_choice.free.Given as goal

abbrev pub invariant-loop-lit : goal.invariant-loop-lit
invariant-loop-lit l = AreNotFree l.set.entries l.level (take l.lit-index l.clause) l.kept
