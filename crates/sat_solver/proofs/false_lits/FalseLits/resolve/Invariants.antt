-- The literals that were passed are in, but for the negation of the pivot.
use Rattle.std.proofs.Common.{take}
use Rattle.sat_solver.specs.inner.Gathered.{AreFalse, ResolvesSet}
use Rattle.sat_solver.proofs.false_lits.FalseLits.resolve.Given as goal

abbrev pub invariant-loop-lit : goal.invariant-loop-lit
invariant-loop-lit l = record {
  are_false : AreFalse l.trail l.self;
  resolved : ResolvesSet l.fn.self.set.lits l.fn.pivot (take l.lit-index l.reason) l.self.set.lits;
}
