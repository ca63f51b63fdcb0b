-- The literals that were passed are in.
use Rattle.std.proofs.Common.{take}
use Rattle.sat_solver.specs.inner.Gathered.{AreFalse, AddsLiterals}
use Rattle.sat_solver.proofs.false_lits.FalseLits.insert_all.Given as goal

abbrev pub invariant-loop-lit : goal.invariant-loop-lit
invariant-loop-lit l = record {
  are_false : AreFalse l.trail l.self;
  inserted : AddsLiterals l.fn.self.set.lits (take l.lit-index l.clause) l.self.set.lits;
}
