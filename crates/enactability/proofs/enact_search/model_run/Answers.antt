-- The variables are those of the safety formula.
use Rattle.std.proofs.Common.{subst, sym}
use Rattle.clause_core.specs.Assignment.{valuation}
use Rattle.clause_core.specs.Clause.{SatisfiesAll}
use Rattle.clause_encoding.specs.declared.variables.Variables.{Variables}
use Rattle.clause_encoding.specs.Families.{shared_clauses}
use Rattle.enactability.proofs.enact_search.model_run.Goals as goal

pub order_run-requires-clause-satisfied : goal.order_run-requires-clause-satisfied
order_run-requires-clause-satisfied c =
    subst (λ (vars : Variables). SatisfiesAll (valuation c.args.assignment.now) (shared_clauses c.args.a.now vars)) (sym c.in_ok-vars.ensures.exact) c.requires.satisfied
