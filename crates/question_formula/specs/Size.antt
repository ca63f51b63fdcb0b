-- How large a formula may be, so that a log can name all that it has.
use Rattle.std.specs.Prelude.{◌≤◌, length}
use Rattle.clause_core.specs.declared.formula.Formula.{Formula}

-- clauses and variables are few, with room for the steps of a log
pub record FitsLog (f : Formula) : Type 0 where
  pub few_clauses : length f.clauses ≤ 100000000
  pub few_variables : f.vars ≤ 2000000000
