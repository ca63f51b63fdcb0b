-- What the loop over the bytes that are left keeps.
use Rattle.std.proofs.Common.{take}
use Rattle.kept_lines.specs.CrashImage.{IsHalfWritten}
use Rattle.kept_lines.proofs.HalfLemmas.{IsHalfUpTo}
use Rattle.kept_lines.proofs.half_written.is_half_written.Given as goal

-- the bytes so far may be left of the first of those that were written
abbrev pub invariant-loop-index : goal.invariant-loop-index
invariant-loop-index l = IsHalfUpTo l.written (take l.index l.left) l.index
