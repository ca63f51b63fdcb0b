-- Which of two kinds first occurs before the other, and the literals that report it.
use Rattle.std.proofs.Common.{◌≡◌, ◌≢◌, ◌↔◌, ◌⊎◌, ℕ, ◌<◌, Bool, true, false, not, ◌&&◌, ◌||◌, eqb, ltb, List, sym, ap, ◌∙◌, arith}
use Rattle.std.proofs.lemmas.Bool.{cond_both, ltb-false, ltb-true, not-true}
use Rattle.std.proofs.lemmas.Bool.Decides.{nat_tests}
use Rattle.bspl_types.specs.declared.event.Event.{Event}
use Rattle.bspl_types.specs.declared.value.Value.{Value}
use Rattle.clause_core.specs.Literal.{MakesTrue, negated, positive}
use Rattle.clause_encoding.specs.declared.variables.Variables.{Variables}
use Rattle.clause_core.specs.declared.literal.Lit.{Lit}
use Rattle.clause_encoding.specs.Variables.{IsKind, occurs, order_variable, stands_before}
use Rattle.first_occurrences.specs.Occurrence.{comes_first, first_position, is_occurring}
use Rattle.first_occurrences.specs.Report.{Reports}

-- the positions are in order, or they are one and the numbers are in order
abbrev pub InOrder : ℕ → ℕ → ℕ → ℕ → Type 0
InOrder a b i j = (a < b) ⊎ ((a ≡ b) × (i < j))

-- the test of it
abbrev in_order : ℕ → ℕ → ℕ → ℕ → Bool
in_order a b i j = ltb a b || (eqb a b && ltb i j)

-- what the test finds
order_from_test : (a b i j : ℕ) → in_order a b i j ≡ true → InOrder a b i j
order_from_test a b i j found = grind (arith, nat_tests)

-- what it does not miss
test_from_order : (a b i j : ℕ) → InOrder a b i j → in_order a b i j ≡ true
test_from_order a b i j ordered = grind (arith, nat_tests)

-- of two numbers one is before the other
opposite_tests : (a b i j : ℕ) → i ≢ j → in_order b a j i ≡ not (in_order a b i j)
opposite_tests a b i j distinct = grind (arith, nat_tests)

-- a kind that comes first has the earlier position, or the lower number
pub order_from_first : (run : List Event) (key : List Value) (i j : ℕ) → comes_first run key i j ≡ true → InOrder (first_position run key i) (first_position run key j) i j
order_from_first run key i j first = order_from_test (first_position run key i) (first_position run key j) i j first

-- and the other way
pub first_from_order : (run : List Event) (key : List Value) (i j : ℕ) → InOrder (first_position run key i) (first_position run key j) i j → comes_first run key i j ≡ true
first_from_order run key i j ordered = test_from_order (first_position run key i) (first_position run key j) i j ordered

-- of two kinds one comes first
pub opposite_first : (run : List Event) (key : List Value) (i j : ℕ) → i ≢ j → comes_first run key j i ≡ not (comes_first run key i j)
opposite_first run key i j distinct = opposite_tests (first_position run key i) (first_position run key j) i j distinct

-- the literal is true exactly if the first test passes, and its negation exactly if the second does
pub record TellsApart (v : ℕ → Bool) (l : Lit) (b c : Bool) : Type 0 where
  pub holds : MakesTrue v l ↔ (b ≡ true)
  pub fails : MakesTrue v (negated l) ↔ (c ≡ true)

-- a positive literal whose variable has the value of a test
tells_positive : (v : ℕ → Bool) (variable : ℕ) (b c : Bool) → v variable ≡ b → c ≡ not b → TellsApart v (positive variable) b c
tells_positive v variable b c is opposite = record {
  holds = (λ t. sym is ∙ t, λ t. is ∙ t);
  fails = (λ t. opposite ∙ ap not (sym is ∙ t), λ t. is ∙ not-true b (sym opposite ∙ t));
}

-- and its negation
tells_negative : (v : ℕ → Bool) (variable : ℕ) (b c : Bool) → v variable ≡ b → c ≡ not b → TellsApart v (negated (positive variable)) c b
tells_negative v variable b c is opposite = record {
  holds = (λ t. opposite ∙ ap not (sym is ∙ t), λ t. is ∙ not-true b (sym opposite ∙ t));
  fails = (λ t. sym is ∙ t, λ t. is ∙ t);
}

-- the literal of two kinds tells which comes first
tells_before : (vars : Variables) (run : List Event) (key : List Value) (v : ℕ → Bool) (i j : ℕ) → Reports vars run key v → IsKind vars i → IsKind vars j → i ≢ j → TellsApart v (stands_before vars i j) (comes_first run key i j) (comes_first run key j i)
tells_before vars run key v i j reports kind_i kind_j distinct =
    cond_both (ltb i j) (positive (order_variable vars i j)) (negated (positive (order_variable vars j i)))
    (λ l. TellsApart v l (comes_first run key i j) (comes_first run key j i))
    (λ less. tells_positive v (order_variable vars i j) (comes_first run key i j) (comes_first run key j i)
    (reports.order i j kind_i kind_j (ltb-true i j less)) (opposite_first run key i j distinct))
    (λ no_less.
    let no_later = ltb-false i j no_less in
    let less : j < i = omega (arith, no_later, distinct) in
    tells_negative v (order_variable vars j i) (comes_first run key j i) (comes_first run key i j)
    (reports.order j i kind_j kind_i less) (opposite_first run key j i (λ same. distinct (sym same))))

-- of two kinds the literal is true exactly if the first of them comes first
pub before_is_true : (vars : Variables) (run : List Event) (key : List Value) (v : ℕ → Bool) (i j : ℕ) → Reports vars run key v → IsKind vars i → IsKind vars j → i ≢ j → MakesTrue v (stands_before vars i j) ↔ (comes_first run key i j ≡ true)
before_is_true vars run key v i j reports kind_i kind_j distinct =
    (tells_before vars run key v i j reports kind_i kind_j distinct).holds

-- and its negation exactly if the second does
pub before_is_false : (vars : Variables) (run : List Event) (key : List Value) (v : ℕ → Bool) (i j : ℕ) → Reports vars run key v → IsKind vars i → IsKind vars j → i ≢ j → MakesTrue v (negated (stands_before vars i j)) ↔ (comes_first run key j i ≡ true)
before_is_false vars run key v i j reports kind_i kind_j distinct =
    (tells_before vars run key v i j reports kind_i kind_j distinct).fails

-- the literal of an occurrence is true exactly if the kind occurs
pub occurs_is_true : (vars : Variables) (run : List Event) (key : List Value) (v : ℕ → Bool) (kind : ℕ) → Reports vars run key v → IsKind vars kind → MakesTrue v (occurs kind) ↔ (is_occurring run key kind ≡ true)
occurs_is_true vars run key v kind reports is_kind =
    (λ t. sym (reports.occurring kind is_kind) ∙ t, λ t. reports.occurring kind is_kind ∙ t)

-- and its negation exactly if it does not
pub occurs_is_false : (vars : Variables) (run : List Event) (key : List Value) (v : ℕ → Bool) (kind : ℕ) → Reports vars run key v → IsKind vars kind → MakesTrue v (negated (occurs kind)) ↔ (is_occurring run key kind ≡ false)
occurs_is_false vars run key v kind reports is_kind =
    (λ t. sym (reports.occurring kind is_kind) ∙ t, λ t. reports.occurring kind is_kind ∙ t)
