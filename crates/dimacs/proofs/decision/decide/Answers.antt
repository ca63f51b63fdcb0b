-- What the solver found is right for the text.
use Rattle.std.proofs.Common.{arith}
use Rattle.dimacs.proofs.Causes.{unread_cause}
use Rattle.dimacs.proofs.ReadingLemmas.{handed_on}
use Rattle.dimacs.proofs.Written.{read_satisfied, read_too_many}
use Rattle.dimacs.proofs.decision.decide.Goals as goal

pub returns-in_err-formula-clause-refused : goal.returns-in_err-formula-clause-refused
returns-in_err-formula-clause-refused c =
    handed_on _ _ _ c.from_residual.ensures.1 (unread_cause c.args.text c.args.options.budget _ (rw c.as_slice.ensures at c.in_err-formula.ensures.err))

pub returns-then-len-from-clause-refused : goal.returns-then-len-from-clause-refused
returns-then-len-from-clause-refused c =
    read_too_many c.args.text c.in_ok-formula.formula c.args.options.budget (rw c.as_slice.ensures at c.in_ok-formula.ensures.ok) (omega arith)

pub returns-in-Sat-clause-right : goal.returns-in-Sat-clause-right
returns-in-Sat-clause-right c =
    read_satisfied c.args.text c.in_ok-formula.formula c.in-Sat.assignment (rw c.as_slice.ensures at c.in_ok-formula.ensures.ok) (rw c.in-Sat.is at c.in_ok-assignment.ensures)

pub returns-in-Unsat-clause-right : goal.returns-in-Unsat-clause-right
returns-in-Unsat-clause-right c =
    c.in_ok-refuted-in-Unsat.ensures c.args.text (rw c.as_slice.ensures at c.in_ok-formula.ensures.ok) (rw c.in-Unsat.is at c.in_ok-assignment.ensures)

pub returns-clause-right : goal.returns-clause-right
returns-clause-right c = record {
  formula = c.in_ok-formula.formula;
  read = rw c.as_slice.ensures at c.in_ok-formula.ensures.ok;
  log = c.in-Budget.field-0;
  spends = rw c.in-Budget.is at c.in_ok-assignment.ensures;
}
