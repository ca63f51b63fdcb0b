-- A clause has the literals of the written one.
use Rattle.dimacs.proofs.Written.{clauses_satisfied, few_clauses, written_satisfied}
use Rattle.dimacs.proofs.laws.formulas_are_as_written.Goals as goal

pub returns-clause-few : goal.returns-clause-few
returns-clause-few c = few_clauses

pub returns-clause-satisfied : goal.returns-clause-satisfied
returns-clause-satisfied c = λ text f read v. (written_satisfied v f.clauses read.written read.same, clauses_satisfied v f.clauses read.written read.same)
