-- Questions that ask the same have the same formula.
use Rattle.std.proofs.Common.{◌≡◌, ℕ, ◌+◌, List, [], ◌++◌, ap, subst, ◌∙◌}
use Rattle.bspl_types.specs.declared.expanded.Expanded.{Expanded}
use Rattle.circuit_clauses.specs.Asserted.{asserted, asserted_count}
use Rattle.circuit_clauses.specs.Condition.{Both, Condition, Either, denied}
use Rattle.clause_core.specs.declared.formula.Formula.{Formula}
use Rattle.clause_core.specs.Written.{AreClausesOf}
use Rattle.clause_encoding.specs.declared.variables.Variables.{Variables}
use Rattle.clause_encoding.specs.Families.{shared_clauses}
use Rattle.clause_encoding.specs.Formula.{plain_variables}
use Rattle.clause_encoding.specs.Variables.{variable_count}
use Rattle.question_formula.specs.Conditions.{asked}
use Rattle.question_formula.specs.Formula.{IsQuestionFormula}
use Rattle.questions.specs.declared.question.Happening.{Happening}
use Rattle.questions.specs.declared.question.Question.{Question}
use Rattle.questions.specs.declared.question.Question.TheVariants as asks
use Rattle.questions.specs.Same.{AskTheSame}

-- they are one condition
same_condition : (x : Expanded) (vars : Variables) (q r : Question) → AskTheSame q r → asked x vars q ≡ asked x vars r
same_condition x vars (asks.Happened g) (asks.Happened h) same = ap (λ (h : Happening). asked x vars (asks.Happened h)) same
same_condition x vars (asks.Before g h) (asks.Before one other) same = λ i. asked x vars (asks.Before (same.0 i) (same.1 i))
same_condition x vars (asks.Can m) (asks.Can n) same = ap (λ (m : ℕ). asked x vars (asks.Can m)) same
same_condition x vars (asks.Rest excused) (asks.Rest others) same = ap (λ (list : List ℕ). asked x vars (asks.Rest list)) same
same_condition x vars (asks.Not' _ q) (asks.Not' _ r) same = ap denied (same_condition x vars q r same)
same_condition x vars (asks.And' _ q _ r) (asks.And' _ s _ t) same =
    let one = same_condition x vars q s same.0 in
    let other = same_condition x vars r t same.1 in
    λ i. Both (one i) (other i)
same_condition x vars (asks.Or' _ q _ r) (asks.Or' _ s _ t) same =
    let one = same_condition x vars q s same.0 in
    let other = same_condition x vars r t same.1 in
    λ i. Either (one i) (other i)
same_condition x vars q r same = absurd same

-- so they have one formula
pub same_formula : (x : Expanded) (q r : Question) (f : Formula) → AskTheSame q r → IsQuestionFormula x q f → IsQuestionFormula x r f
same_formula x q r f same is =
    let vars = plain_variables x in
    let one = same_condition x vars q r same in
    record {
      vars = is.vars ∙ ap (λ (c : Condition). variable_count vars + asserted_count c) one;
      clauses = subst (λ (c : Condition). AreClausesOf (shared_clauses x vars ++ asserted (variable_count vars + 1) [] c) f.clauses) one is.clauses;
    }
