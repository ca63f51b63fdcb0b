-- The clauses by which a log is accepted.
use Rattle.std.specs.Prelude.{List, [], ◌++◌, Contains}
use Rattle.clause_core.specs.declared.literal.Lit.{Lit}
use Rattle.clause_core.specs.declared.formula.Formula.{Formula}
use Rattle.refutation_log.specs.declared.refutation.Log.{Log}
use Rattle.refutation_log.specs.Resolution.{LogResolves}

-- the steps derive these clauses, and one of them or of the formula is empty
pub record IsAcceptedWith (f : Formula) (log : Log) (derived : List (List Lit)) : Type 0 where
  pub resolves : LogResolves f log derived
  pub empty : Contains (f.clauses ++ derived) []
