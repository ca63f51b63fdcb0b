-- The formula of a message: in some enactment it is sent.
use Rattle.std.specs.Prelude.{◌≡◌, ℕ, List, [], ◌∷◌, ◌++◌}
use Rattle.bspl_types.specs.declared.expanded.Expanded.{Expanded}
use Rattle.clause_core.specs.declared.formula.Formula.{Formula}
use Rattle.clause_core.specs.Written.{Written, AreClausesOf}
use Rattle.clause_encoding.specs.Families.{shared_clauses}
use Rattle.clause_encoding.specs.Formula.{safety_variables}
use Rattle.clause_encoding.specs.Variables.{occurs, sent, variable_count}

-- the clause that the message is sent, alone
abbrev pub sent_clause : ℕ → List Written
sent_clause m = (occurs (sent m) ∷ []) ∷ []

-- the clauses of the safety formula before its first one on rivals, and that the message is sent
abbrev pub enact_clauses : Expanded → ℕ → List Written
enact_clauses x m = shared_clauses x (safety_variables x) ++ sent_clause m

-- the formula has exactly these clauses, over the variables of the safety formula
pub record IsEnactFormula (x : Expanded) (m : ℕ) (f : Formula) : Type 0 where
  pub vars : f.vars ≡ variable_count (safety_variables x)
  pub clauses : AreClausesOf (enact_clauses x m) f.clauses
