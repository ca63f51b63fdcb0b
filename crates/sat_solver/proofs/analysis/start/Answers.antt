-- The set was emptied, and took the literals of the false clause.
use Rattle.std.proofs.Common.{ap, IsSome, refl, sym, subst}
use Rattle.sat_solver.specs.inner.LiteralSet.{LiteralSet}
use Rattle.sat_solver.proofs.StepLemmas.{Gathers-start}
use Rattle.sat_solver.proofs.analysis.start.Goals as goal

pub clause-requires : goal.clause-requires
clause-requires c = subst IsSome (sym c.requires.falsified.has_number.there) refl

pub returns-clause-gathers : goal.returns-clause-gathers
returns-clause-gathers c =
    let inserts = rw (ap (λ (s : LiteralSet). s.lits) c.clear.ensures.set, c.lits.ensures.same) at c.insert_all.ensures.inserted in
    rw c.new.ensures
    (Gathers-start c.args.trail.now c.args.number c.clause.result c.insert_all.new.self c.requires.falsified c.clause.ensures c.lits.ensures.ascending c.insert_all.ensures.are_false inserts)
