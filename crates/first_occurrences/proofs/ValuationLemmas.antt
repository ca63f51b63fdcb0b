-- The assignment that reports a run, with given values at the variables between.
use Rattle.std.proofs.Common.{◌≡◌, ℕ, ◌<◌, ◌≤◌, Bool, true, cond, ◌&&◌, eqb, leb, List, refl, ◌∙◌, subst, arith}
use Rattle.std.specs.List.{list_any}
use Rattle.std.proofs.lemmas.Bool.{and_from, and_parts, cond-false, cond-true, eq-eqb, eqb-true, le-leb, lt-leb}
use Rattle.std.proofs.lemmas.Bool.Decides.{same_from_decides}
use Rattle.bspl_types.specs.declared.event.Event.{Event}
use Rattle.bspl_types.specs.declared.value.Value.{Value}
use Rattle.clause_encoding.specs.declared.variables.Variables.{Variables}
use Rattle.clause_encoding.specs.Variables.{IsKind, kinds_following, order_variable}
use Rattle.first_occurrences.specs.Occurrence.{comes_first, is_occurring}
use Rattle.first_occurrences.specs.Report.{HasBetween, Reports}
use Rattle.first_occurrences.proofs.KindLemmas.{among_after, kind_after}
use Rattle.first_occurrences.proofs.ListedLemmas.{passed, passes_by}
use Rattle.first_occurrences.proofs.NumberingLemmas.{one_pair, order_after_base}

-- the variable is that of the two kinds, and the first of them comes first
abbrev reports_pair : Variables → List Event → List Value → ℕ → ℕ → ℕ → Bool
reports_pair vars run key variable i j = eqb (order_variable vars i j) variable && comes_first run key i j

-- with some second kind
abbrev reports_first : Variables → List Event → List Value → ℕ → ℕ → Bool
reports_first vars run key variable i = list_any (reports_pair vars run key variable i) (kinds_following vars i)

-- the value of a variable of order
abbrev order_value : Variables → List Event → List Value → ℕ → Bool
order_value vars run key variable = list_any (reports_first vars run key variable) (kinds_following vars 0)

-- the value of each variable
abbrev valuation : Variables → List Event → List Value → (ℕ → Bool) → ℕ → Bool
valuation vars run key others variable =
    cond (leb variable vars.kinds) (is_occurring run key variable)
    (cond (leb variable vars.order_base) (others variable) (order_value vars run key variable))

-- of two kinds of which the first comes first the variable is true
true_if_first : (vars : Variables) (run : List Event) (key : List Value) (i j : ℕ) → IsKind vars i → IsKind vars j → i < j → comes_first run key i j ≡ true → order_value vars run key (order_variable vars i j) ≡ true
true_if_first vars run key i j kind_i kind_j less first =
    let variable = order_variable vars i j in
    let pair = and_from (eqb variable variable) (comes_first run key i j) (eq-eqb variable variable refl) first in
    let second = passes_by (reports_pair vars run key variable i) (kinds_following vars i) j (among_after vars i j less kind_j) pair in
    passes_by (reports_first vars run key variable) (kinds_following vars 0) i (among_after vars 0 i kind_i.from_one kind_i) second

-- and of no others
first_if_true : (vars : Variables) (run : List Event) (key : List Value) (i j : ℕ) → IsKind vars i → IsKind vars j → i < j → order_value vars run key (order_variable vars i j) ≡ true → comes_first run key i j ≡ true
first_if_true vars run key i j kind_i kind_j less holds =
    let variable = order_variable vars i j in
    let first = passed (reports_first vars run key variable) (kinds_following vars 0) holds in
    let second = passed (reports_pair vars run key variable first.item) (kinds_following vars first.item) first.passes in
    let (after_zero, kind_k) = kind_after vars 0 first.item first.among in
    let (more, kind_l) = kind_after vars first.item second.item second.among in
    let (same, comes) = and_parts (eqb (order_variable vars first.item second.item) variable) (comes_first run key first.item second.item) second.passes in
    let one = one_pair vars first.item second.item i j kind_k kind_l kind_i kind_j more less (eqb-true (order_variable vars first.item second.item) variable same) in
    subst (λ k. comes_first run key k j ≡ true) one.first (subst (λ l. comes_first run key first.item l ≡ true) one.second comes)

-- so it has the value of the test
order_value_is : (vars : Variables) (run : List Event) (key : List Value) (i j : ℕ) → IsKind vars i → IsKind vars j → i < j → order_value vars run key (order_variable vars i j) ≡ comes_first run key i j
order_value_is vars run key i j kind_i kind_j less =
    same_from_decides (order_value vars run key (order_variable vars i j)) (comes_first run key i j)
    (first_if_true vars run key i j kind_i kind_j less, true_if_first vars run key i j kind_i kind_j less) ((λ t. t), (λ t. t))

-- the value of an occurrence
occurrence_at : (vars : Variables) (run : List Event) (key : List Value) (others : ℕ → Bool) (kind : ℕ) → IsKind vars kind → valuation vars run key others kind ≡ is_occurring run key kind
occurrence_at vars run key others kind is_kind = cond-true (leb kind vars.kinds) _ _ (le-leb kind vars.kinds is_kind.up_to)

-- the value of a variable between
between_at : (vars : Variables) (run : List Event) (key : List Value) (others : ℕ → Bool) → HasBetween vars others (valuation vars run key others)
between_at vars run key others variable after up_to =
    cond-false (leb variable vars.kinds) _ _ (lt-leb variable vars.kinds after) ∙
    cond-true (leb variable vars.order_base) _ _ (le-leb variable vars.order_base up_to)

-- the value of a variable of order
order_at : (vars : Variables) (run : List Event) (key : List Value) (others : ℕ → Bool) (i j : ℕ) → vars.kinds ≤ vars.order_base → IsKind vars i → IsKind vars j → i < j → valuation vars run key others (order_variable vars i j) ≡ comes_first run key i j
order_at vars run key others i j kinds_first kind_i kind_j less =
    let variable = order_variable vars i j in
    let after = order_after_base vars i j kind_i less in
    cond-false (leb variable vars.kinds) _ _ (lt-leb variable vars.kinds (omega (arith, after))) ∙
    cond-false (leb variable vars.order_base) _ _ (lt-leb variable vars.order_base after) ∙
    order_value_is vars run key i j kind_i kind_j less

-- it reports the run
pub valuation_exists : (vars : Variables) (run : List Event) (key : List Value) (others : ℕ → Bool) → vars.kinds ≤ vars.order_base → (v : ℕ → Bool) × Reports vars run key v × HasBetween vars others v
valuation_exists vars run key others kinds_first = (
  valuation vars run key others,
  record {
    occurring = occurrence_at vars run key others;
    order = λ i j kind_i kind_j less. order_at vars run key others i j kinds_first kind_i kind_j less;
  },
  between_at vars run key others,
)
