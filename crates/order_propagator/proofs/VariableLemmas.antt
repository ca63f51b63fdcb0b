-- The variables of one lower kind follow one another, and after them come those of the next.
use Rattle.std.proofs.Common.{◌≡◌, inl, inr, ℕ, zero, suc, ◌+◌, ◌-◌, ◌*◌, ◌/◌, ◌<◌, ◌≤◌, true, false, Some, List, [], ◌∷◌, ◌++◌, length, slice_get, ap, sym, subst, ◌∙◌, arith, length-append}
use Rattle.std.specs.Prelude.{nat_lt}
use Rattle.std.proofs.Math.Nat.{mul-le-mul_left}
use Rattle.std.proofs.lemmas.Bool.{cases_lt, cond-false, cond-true, le-ltb, lt-ltb}
use Rattle.std.proofs.lemmas.List.{get_or_append_left, get_or_push}
use Rattle.std.proofs.lemmas.Option.{get_or_from_slice_get, slice_get-get_or, slice_get_within}
use Rattle.clause_core.specs.declared.literal.Lit.{Lit}
use Rattle.order_axioms.specs.declared.kind_pair.KindPair.{KindPair}
use Rattle.order_axioms.specs.declared.order.Order.{Order}
use Rattle.order_axioms.specs.Cycles.{IsPair}
use Rattle.order_axioms.specs.Order.{AreTwoKinds, comes_before, pair_variable}
use Rattle.order_propagator.specs.inner.Pairs.{ArePairs, positive}

-- the product of two neighbours is even
half_even : (p : ℕ) → (t : ℕ) × ((p + 1) * p ≡ 2 * t)
half_even zero = (0, omega arith)
half_even (suc p) = let smaller = half_even p in (smaller.0 + p + 1, omega (arith, smaller.1))

-- the number of a pair, by how many kinds come before its first one
number : ℕ → ℕ → ℕ → ℕ → ℕ
number base kinds p k = base + p * kinds - (p + 1) * p / 2 + (k - (p + 1))

number_is : (order : Order) (p k : ℕ) → pair_variable order (p + 1) k ≡ number order.base order.kinds p k
unfolding number
number_is order p k =
    let before : p + 1 - 1 ≡ p = omega arith in
    ap (λ (q : ℕ). order.base + q * order.kinds - (p + 1) * q / 2 + (k - (p + 1))) before

-- from the first variable of a lower kind to that of the next
number_next : (base kinds p t : ℕ) → (p + 1) * p ≡ 2 * t → p * (p + 1) ≤ p * kinds → p + 1 ≤ kinds → number base kinds (p + 1) (p + 1 + 1 + 1) ≡ number base kinds p (p + 1 + 1) + (kinds - (p + 1))
unfolding number
number_next base kinds p t even square within = omega (arith, even, square, within)

-- the first variable of a lower kind
abbrev pub row : Order → ℕ → ℕ
row order i = pair_variable order i (i + 1)

-- the variables of a lower kind follow one another
pub in_row : (order : Order) (i j : ℕ) → i < j → pair_variable order i j ≡ row order i + (j - (i + 1))
in_row order i j rising = omega (arith, rising)

-- after the variables of a lower kind come those of the next
row_by : (order : Order) (p : ℕ) → p + 1 ≤ order.kinds → row order (p + 1 + 1) ≡ row order (p + 1) + (order.kinds - (p + 1))
row_by order p within =
    let even = half_even p in
    let square = mul-le-mul_left p within in
    omega (arith, number_is order p (p + 1 + 1), number_is order (p + 1) (p + 1 + 1 + 1), number_next order.base order.kinds p even.0 even.1 square within)

pub row_next : (order : Order) (i : ℕ) → 0 < i → i ≤ order.kinds → row order (i + 1) ≡ row order i + (order.kinds - i)
row_next order i some within =
    let back : i - 1 + 1 ≡ i = omega (arith, some) in
    let next : i - 1 + 1 + 1 ≡ i + 1 = omega (arith, some) in
    let by = row_by order (i - 1) (omega (arith, back, within)) in
    omega (arith, by, ap (row order) back, ap (row order) next, back)

-- two kinds, the lower one first
pub record AreRisingTwo (order : Order) (i j : ℕ) : Type 0 where
  pub from_one : 0 < i
  pub rising : i < j
  pub up_to : j ≤ order.kinds

-- the variables of a lower kind come before those of a later one, which may be the last kind of all
below_row : (order : Order) (i j k : ℕ) → AreRisingTwo order i j → i < k → k ≤ order.kinds → pair_variable order i j < row order k
below_row order i j k two later within =
    let up_to = two.up_to in
    let rising = two.rising in
    let end : i + 1 + (k - (i + 1)) ≡ k = omega (arith, later) in
    omega (arith, in_row order i j rising, row_next order i two.from_one (omega (arith, later, within)), rises (i + 1) (k - (i + 1)) (omega (arith, two.from_one)) (omega (arith, end, within)), ap (row order) end, up_to, rising)
  where
    rises : (a n : ℕ) → 0 < a → a + n ≤ order.kinds → row order a ≤ row order (a + n)
    rises a zero some few = omega (arith, (let same : a + 0 ≡ a = omega arith in ap (row order) same))
    rises a (suc n) some few =
        let next : a + n + 1 ≡ a + suc n = omega arith in
        omega (arith, rises a n some (omega (arith, few)), row_next order (a + n) (omega (arith, some)) (omega (arith, few)), ap (row order) next)

-- two pairs of one variable are one
one_pair : (order : Order) (i j k l : ℕ) → AreRisingTwo order i j → AreRisingTwo order k l → pair_variable order i j ≡ pair_variable order k l → (i ≡ k) × (j ≡ l)
one_pair order i j k l first second same = elim (cases_lt i k) [
  | inl less ↦ absurd (omega (arith, below_row order i j k first less (omega (arith, second.rising, second.up_to)), in_row order k l second.rising, same))
  | inr not_less ↦ elim (cases_lt k i) [
    | inl more ↦ absurd (omega (arith, below_row order k l i second more (omega (arith, first.rising, first.up_to)), in_row order i j first.rising, same))
    | inr not_more ↦
        let one : i ≡ k = omega (arith, not_less, not_more) in
        (one, omega (arith, same, in_row order i j first.rising, in_row order k l second.rising, ap (row order) one, one, first.rising, second.rising))
  ]
]

-- the literal that one kind comes before another, by which of them is lower
before_up : (order : Order) (x y : ℕ) → x < y → comes_before order x y ≡ positive (pair_variable order x y)
before_up order x y less = cond-true (nat_lt x y) (positive (pair_variable order x y)) (record { var = pair_variable order y x; positive = false }) (lt-ltb x y less)

before_down : (order : Order) (x y : ℕ) → y < x → comes_before order x y ≡ record { var = pair_variable order y x; positive = false }
before_down order x y less = cond-false (nat_lt x y) (positive (pair_variable order x y)) (record { var = pair_variable order y x; positive = false }) (le-ltb x y (omega (arith, less)))

-- the literal of the variable of two kinds says that the lower one comes before the other
rising_pair : (order : Order) (i j variable : ℕ) → AreRisingTwo order i j → pair_variable order i j ≡ variable → IsPair order (positive variable) (record { first = i; second = j })
rising_pair order i j variable two is = record {
  kinds = record {
    from_one = (two.from_one, omega (arith, two.from_one, two.rising));
    up_to = (omega (arith, two.rising, two.up_to), two.up_to);
    distinct = λ same. omega (arith, two.rising, same);
  };
  says = before_up order i j two.rising ∙ ap positive is;
  only = only;
}
  where
    only : (x y : ℕ) → AreTwoKinds order x y → comes_before order x y ≡ positive variable → (x ≡ i) × (y ≡ j)
    only x y kinds says = elim (cases_lt x y) [
      | inl up ↦
          one_pair order x y i j (record { from_one = kinds.from_one.0; rising = up; up_to = kinds.up_to.1 }) two
          (ap (λ (k : Lit). k.var) (sym (before_up order x y up) ∙ says) ∙ sym is)
      | inr over ↦
          let down : y < x = omega (arith, over, kinds.distinct) in
          absurd (let clash : false ≡ true = ap (λ (k : Lit). k.positive) (sym (before_down order x y down) ∙ says) in cc)
    ]

-- no pair is known of no variable
pub no_pairs : (order : Order) → ArePairs order []
no_pairs order = record { pair = λ index found got. absurd (let none = slice_get_within [] index found got in omega (arith, none)) }

-- the pair of the next variable comes next
pub next_pair : (order : Order) (cells : List KindPair) (i j : ℕ) → ArePairs order cells → AreRisingTwo order i j → order.base + length cells + 1 ≡ pair_variable order i j → ArePairs order (cells ++ record { first = i; second = j } ∷ [])
next_pair order cells i j known two next = record { pair = pair }
  where
    last : KindPair
    last = record { first = i; second = j }

    pair : (index : ℕ) (found : KindPair) → slice_get (cells ++ last ∷ []) index ≡ Some found → IsPair order (positive (order.base + index + 1)) found
    pair index found got = elim (cases_lt index (length cells)) [
      | inl before ↦ known.pair index found
          (slice_get-get_or cells index last before
          ∙ ap Some (sym (get_or_append_left cells (last ∷ []) last index before) ∙ get_or_from_slice_get (cells ++ last ∷ []) index found last got))
      | inr past ↦
          let at_end : length cells ≡ index = omega (arith, past, slice_get_within (cells ++ last ∷ []) index found got, length-append cells (last ∷ [])) in
          let is : last ≡ found = sym (get_or_push cells last last index at_end) ∙ get_or_from_slice_get (cells ++ last ∷ []) index found last got in
          subst (IsPair order (positive (order.base + index + 1))) is
          (rising_pair order i j (order.base + index + 1) two (sym next ∙ ap (λ (n : ℕ). order.base + n + 1) at_end))
    ]
