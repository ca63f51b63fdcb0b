-- The shared families and the clauses that a condition is met are the formula of a question.
use Rattle.std.proofs.Common.{◌≡◌, ℕ, ◌+◌, ◌≤◌, List, [], ◌∷◌, ◌++◌, length, take, ap, sym, ◌∙◌, subst, arith, append_assoc, length-append}
use Rattle.std.specs.List.{All}
use Rattle.bspl_types.specs.declared.expanded.Expanded.{Expanded}
use Rattle.circuit_clauses.specs.Asserted.{asserted, asserted_count}
use Rattle.circuit_clauses.specs.Condition.{Condition}
use Rattle.clause_core.specs.declared.literal.Lit.{Lit}
use Rattle.clause_core.specs.Clause.{VariablesExist}
use Rattle.clause_core.specs.Written.{Written, AreClausesOf}
use Rattle.clause_encoding.specs.declared.variables.Variables.{Variables}
use Rattle.clause_encoding.specs.Families.{shared_clauses}
use Rattle.clause_encoding.specs.Formula.{plain_variables}
use Rattle.clause_encoding.specs.Variables.{variable_count}
use Rattle.order_axioms.specs.declared.order.Order.{Order}
use Rattle.order_axioms.specs.declared.ordered_formula.OrderedFormula.{OrderedFormula}
use Rattle.order_axioms.specs.Formula.{whole}
use Rattle.order_axioms.specs.Order.{order_list}
use Rattle.questions.specs.declared.question.Question.{Question}
use Rattle.question_formula.specs.Conditions.{asked}
use Rattle.question_formula.specs.Formula.{IsFormulaOfCondition, question_condition}
use Rattle.question_formula.specs.Size.{FitsLog}
use Rattle.question_formula.specs.inner.Shared.{AssertsToo, KeepsFirst, KeepsShared, first_clauses}

-- clauses of one list and then of another
joined : (written others : List Written) (clauses more : List (List Lit)) → AreClausesOf written clauses → AreClausesOf others more → AreClausesOf (written ++ others) (clauses ++ more)
joined [] others [] more are also = also
joined [] others (clause ∷ clauses) more are also = absurd are
joined (lits ∷ written) others [] more are also = absurd are
joined (lits ∷ written) others (clause ∷ clauses) more are also = (are.0, joined written others clauses more are.1 also)

-- the condition of the question, by other names
pub question_of_circuit : (x y : Expanded) (q : Question) (c : Condition) (vars : Variables) → y ≡ x → vars ≡ plain_variables y → c ≡ asked y vars q → c ≡ question_condition x q
question_of_circuit x y q c vars same are is = is ∙ ap (λ v. asked y v q) are ∙ ap (λ (z : Expanded). asked z (plain_variables z) q) same

module _ (x : Expanded) (count vars : ℕ) (old new : OrderedFormula) (c : Condition) (keeps : KeepsShared x count vars old) (kept : KeepsFirst count old new) (too : AssertsToo count vars c old new) where
  -- the clauses of the new formula are the first ones and its own
  in_turn : first_clauses old count ++ too.own.clauses ≡ order_list new.order ++ new.stored.clauses
  in_turn =
      append_assoc (order_list old.order) (take count old.stored.clauses) too.own.clauses
      ∙ ap (λ (rest : List (List Lit)). order_list old.order ++ rest) (sym too.follows)
      ∙ ap (λ (order : Order). order_list order ++ new.stored.clauses) (sym kept.order)

  -- they are those that the shared families and the condition have
  clauses_are : AreClausesOf (shared_clauses x (plain_variables x) ++ asserted (variable_count (plain_variables x) + 1) [] c) (order_list new.order ++ new.stored.clauses)
  clauses_are =
      let more = subst (λ (n : ℕ). AreClausesOf (asserted (n + 1) [] c) too.own.clauses) keeps.counted too.is.clauses in
      subst (AreClausesOf (shared_clauses x (plain_variables x) ++ asserted (variable_count (plain_variables x) + 1) [] c)) in_turn
      (joined (shared_clauses x (plain_variables x)) (asserted (variable_count (plain_variables x) + 1) [] c) (first_clauses old count) too.own.clauses keeps.are more)

  -- so the formula is that of each question that has the condition
  pub of_condition : IsFormulaOfCondition x c (whole new)
  of_condition q same = record {
    vars = too.variables ∙ too.is.vars ∙ ap (λ (n : ℕ). n + asserted_count c) keeps.counted ∙ ap (λ (d : Condition). variable_count (plain_variables x) + asserted_count d) same;
    clauses = subst (λ (d : Condition). AreClausesOf (shared_clauses x (plain_variables x) ++ asserted (variable_count (plain_variables x) + 1) [] d) (order_list new.order ++ new.stored.clauses)) same clauses_are;
  }

  -- and not too large for a log
  pub fits_log : FitsLog (whole new)
  fits_log =
      let all : length (order_list new.order ++ new.stored.clauses) ≡ length (first_clauses old count) + length too.own.clauses =
      ap length (sym in_turn) ∙ length-append (first_clauses old count) too.own.clauses in
      record {
        few_clauses = omega (arith, all, keeps.few, too.is.few_clauses);
        few_variables = omega (arith, too.variables, too.is.few_variables);
      }

-- with the first clauses the shared families are kept
pub still_shared : (x : Expanded) (count vars : ℕ) (old new : OrderedFormula) → KeepsShared x count vars old → KeepsFirst count old new → KeepsShared x count vars new
still_shared x count vars old new keeps kept =
    let first : first_clauses new count ≡ first_clauses old count =
    ap (λ (order : Order). order_list order ++ take count new.stored.clauses) kept.order ∙ ap (λ (clauses : List (List Lit)). order_list old.order ++ clauses) kept.same in
    record {
      there = kept.there;
      counted = keeps.counted;
      exist = subst (All (VariablesExist vars)) (sym first) keeps.exist;
      are = subst (AreClausesOf (shared_clauses x (plain_variables x))) (sym first) keeps.are;
      few = subst (λ (clauses : List (List Lit)). length clauses ≤ 8000000) (sym first) keeps.few;
    }
