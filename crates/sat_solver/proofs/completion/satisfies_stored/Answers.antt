-- One more clause is satisfied, and in the end all are.
use Rattle.std.proofs.Common.{◌∙◌, subst, All}
use Rattle.std.proofs.lemmas.List.{take_all}
use Rattle.std.proofs.lemmas.List.Elements.{All-more}
use Rattle.clause_core.specs.Assignment.{valuation}
use Rattle.clause_core.specs.Clause.{Satisfies}
use Rattle.sat_solver.proofs.completion.satisfies_stored.Goals as goal

pub loop-clause-preserved : goal.loop-clause-preserved
loop-clause-preserved c =
    let holds = Satisfies (valuation c.args.assignment.now) in
    All-more holds c.as_slice-clause-items.result.now c.loop-clause.clause-index c.clause-item.result c.loop-clause-test.true c.loop-clause.invariant
    (subst holds c.clause-item.is (c.satisfies.ensures.0 c.if-not-satisfies.false))

pub returns : goal.returns
returns c = λ _.
    subst (All (Satisfies (valuation c.args.assignment.now)))
    (take_all c.loop-clause.clause-index c.as_slice-clause-items.result.now c.loop-clause-test.false ∙ c.as_slice-clause-items.ensures) c.loop-clause.invariant
