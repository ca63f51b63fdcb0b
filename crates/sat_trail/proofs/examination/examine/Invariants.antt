-- The literals that were passed are false, but for the one that is left.
use Rattle.std.proofs.Common.{take}
use Rattle.sat_trail.specs.Entry.{values_of}
use Rattle.sat_trail.proofs.SettledLemmas.{SoFar}
use Rattle.sat_trail.proofs.examination.examine.Given as goal

abbrev pub invariant-loop-lit : goal.invariant-loop-lit
invariant-loop-lit l = SoFar (values_of l.set.entries) (take l.lit-index l.clause) l.left
