-- There is a value for each variable, and the values satisfy, since no clause is false.
use Rattle.std.proofs.Common.{◌≡◌, length, subst, arith}
use Rattle.sat_trail.specs.Entry.{values_of}
use Rattle.sat_solver.proofs.ModelLemmas.{HasValues, satisfies-model}
use Rattle.sat_solver.proofs.model.model.Goals as goal

pub returns-clause-whole : goal.returns-clause-whole
returns-clause-whole c =
    let many : length c.in_ok-assignment.assignment ≡ c.loop-index.index = rw (c.in_ok-assignment.ensures, c.as_slice.ensures) c.loop-index.invariant.many in
    omega (arith, many)

pub returns-clause-satisfies : goal.returns-clause-satisfies
returns-clause-satisfies c =
    satisfies-model c.args.trail.now c.in_ok-assignment.assignment c.is_trail.ensures
    (rw (c.in_ok-assignment.ensures, c.as_slice.ensures)
    (subst (HasValues (values_of c.args.trail.now.entries) c.loop-index.values) (let at_end : c.loop-index.index ≡ c.args.trail.now.vars = omega arith in at_end) c.loop-index.invariant))
    c.requires.all_set c.requires.propagated
