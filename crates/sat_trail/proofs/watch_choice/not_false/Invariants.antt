-- The literals that were passed are false, but for the one that is kept.
use Rattle.std.proofs.Common.{take}
use Rattle.sat_trail.proofs.ForceLemmas.{PassedFalse}
use Rattle.sat_trail.proofs.watch_choice.not_false.Given as goal

abbrev pub invariant-loop-lit : goal.invariant-loop-lit
invariant-loop-lit l = PassedFalse l.set.entries (take l.lit-index l.clause) l.kept
