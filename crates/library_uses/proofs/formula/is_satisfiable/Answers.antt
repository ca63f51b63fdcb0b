-- The answer is that of the outcome.
use Rattle.std.proofs.Common.{subst}
use Rattle.clause_core.specs.Assignment.{valuation}
use Rattle.sat_solver.specs.Outcome.{IsOutcome}
use Rattle.library_uses.proofs.formula.is_satisfiable.Goals as goal

pub returns-in-Sat : goal.returns-in-Sat
returns-in-Sat c = (valuation c.in-Sat.field-0, (subst (IsOutcome c.args.f.now 1000) c.in-Sat.is c.in_ok-solve.ensures).satisfies)

pub returns-in-Unsat : goal.returns-in-Unsat
returns-in-Unsat c = c.accepted_is_unsatisfiable.ensures c.args.f.now c.in-Unsat.field-0 (subst (IsOutcome c.args.f.now 1000) c.in-Unsat.is c.in_ok-solve.ensures).accepted

pub returns : goal.returns
returns c = (c.in-Budget.field-0, subst (IsOutcome c.args.f.now 1000) c.in-Budget.is c.in_ok-solve.ensures)
