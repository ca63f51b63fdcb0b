-- The values of the variables that were passed.
use Rattle.sat_trail.specs.Entry.{values_of}
use Rattle.sat_solver.proofs.ModelLemmas.{HasValues}
use Rattle.sat_solver.proofs.model.model.Given as goal

abbrev pub invariant-loop-index : goal.invariant-loop-index
invariant-loop-index l = HasValues (values_of l.trail.entries) l.values l.index
