-- The formula of a question: what holds in every enactment, and that the answer is yes.
use Rattle.std.specs.Prelude.{◌≡◌, ℕ, ◌+◌, List, [], ◌++◌}
use Rattle.bspl_types.specs.declared.expanded.Expanded.{Expanded}
use Rattle.circuit_clauses.specs.Asserted.{asserted, asserted_count}
use Rattle.circuit_clauses.specs.Condition.{Condition}
use Rattle.clause_core.specs.declared.formula.Formula.{Formula}
use Rattle.clause_core.specs.Written.{Written, AreClausesOf}
use Rattle.clause_encoding.specs.Families.{shared_clauses}
use Rattle.clause_encoding.specs.Formula.{plain_variables}
use Rattle.clause_encoding.specs.Variables.{variable_count}
use Rattle.order_axioms.specs.declared.ordered_formula.OrderedFormula.{OrderedFormula}
use Rattle.questions.specs.declared.question.Question.{Question}
use Rattle.question_formula.specs.Conditions.{asked}

-- the condition that the answer is yes, over the variables of the formula
abbrev pub question_condition : Expanded → Question → Condition
question_condition x q = asked x (plain_variables x) q

-- the clauses of the formula, in order; the further variables follow those of order
abbrev pub question_clauses : Expanded → Question → List Written
question_clauses x q =
    shared_clauses x (plain_variables x) ++
    asserted (variable_count (plain_variables x) + 1) [] (question_condition x q)

-- how many variables it has
abbrev pub question_variable_count : Expanded → Question → ℕ
question_variable_count x q =
    variable_count (plain_variables x) + asserted_count (question_condition x q)

-- the formula has exactly these variables and clauses
pub record IsQuestionFormula (x : Expanded) (q : Question) (f : Formula) : Type 0 where
  pub vars : f.vars ≡ question_variable_count x q
  pub clauses : AreClausesOf (question_clauses x q) f.clauses

-- the formula is that of each question that has this condition
abbrev pub IsFormulaOfCondition : Expanded → Condition → Formula → Type 0
IsFormulaOfCondition x c f =
    (q : Question) → c ≡ question_condition x q → IsQuestionFormula x q f

-- a protocol, and a formula for it
pub record ProtocolFormula : Type 0 where
  pub protocol : Expanded
  pub formula : OrderedFormula
