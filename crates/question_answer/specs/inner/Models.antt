-- Models that earlier searches found, and those that answer another question.
use Rattle.std.specs.Prelude.{◌≡◌, ◌≤◌, Bool, List, length}
use Rattle.std.specs.List.{All}
use Rattle.bspl_types.specs.declared.expanded.Expanded.{Expanded}
use Rattle.circuit_clauses.specs.Condition.{Meets}
use Rattle.clause_core.specs.Assignment.{valuation}
use Rattle.clause_core.specs.Clause.{SatisfiesAll}
use Rattle.clause_encoding.specs.Families.{shared_clauses}
use Rattle.clause_encoding.specs.Formula.{plain_variables}
use Rattle.clause_encoding.specs.Variables.{variable_count}
use Rattle.question_formula.specs.Formula.{question_condition}
use Rattle.questions.specs.declared.question.Question.{Question}
use Rattle.question_answer.specs.declared.question_search.TheConstants.{MOST_MODELS}

-- the assignment satisfies the clauses that all questions share, and has all of their variables
pub record IsSharedModel (x : Expanded) (assignment : List Bool) : Type 0 where
  pub has_all : variable_count (plain_variables x) ≤ length assignment
  pub satisfied : SatisfiesAll (valuation assignment) (shared_clauses x (plain_variables x))

-- it meets the condition of the question
abbrev pub MeetsQuestion : Expanded → Question → List Bool → Type 0
MeetsQuestion x q assignment = Meets (valuation assignment) (question_condition x q)

-- a search has formulas of its protocol, and keeps few models
pub record IsSearchOf (x formulas : Expanded) (models : List (List Bool)) : Type 0 where
  pub same : formulas ≡ x
  pub few : length models ≤ MOST_MODELS
  pub each : All (IsSharedModel x) models
