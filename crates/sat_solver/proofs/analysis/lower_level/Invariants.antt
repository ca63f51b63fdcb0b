-- The level is the highest one below the current one among the literals that were passed.
use Rattle.std.proofs.Common.{take}
use Rattle.sat_solver.specs.inner.Analysis.{IsLowerLevel}
use Rattle.sat_solver.proofs.analysis.lower_level.Given as goal

abbrev pub invariant-loop-lit : goal.invariant-loop-lit
invariant-loop-lit l = IsLowerLevel l.trail (take l.lit-index l.clause) l.lower
