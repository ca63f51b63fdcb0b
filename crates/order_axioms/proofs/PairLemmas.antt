-- Which two kinds a variable is of: the variables of one lower kind follow one another, and after them come those of the next.
use Rattle.std.proofs.Common.{◌≡◌, ◌⊎◌, inl, inr, ℕ, zero, suc, ◌+◌, ◌-◌, ◌<◌, ◌≤◌, Bool, true, false, ap, sym, ◌∙◌, arith}
use Rattle.std.proofs.Math.Nat.{mul-le-mul_left}
use Rattle.std.proofs.lemmas.Bool.{cases_lt}
use Rattle.clause_core.specs.declared.literal.Lit.{Lit}
use Rattle.order_axioms.specs.declared.kind_pair.KindPair.{KindPair}
use Rattle.order_axioms.specs.declared.order.Order.{Order}
use Rattle.order_axioms.specs.Order.{AreTwoKinds, pair_variable}
use Rattle.order_axioms.specs.Cycles.{IsNoPair, IsPair}
use Rattle.order_axioms.specs.inner.Pair.{AreRisingTwo, IsOfNone, IsVariableOf}
use Rattle.order_axioms.proofs.CycleLemmas.{before_greater, before_lower}
use Rattle.order_axioms.proofs.VariableLemmas.{half_even, number_next, pair_is}

-- the first variable of a lower kind
abbrev pub row : Order → ℕ → ℕ
row order i = pair_variable order i (i + 1)

-- the variables of a lower kind follow one another
pub in_row : (order : Order) (i j : ℕ) → i < j → pair_variable order i j ≡ row order i + (j - (i + 1))
in_row order i j rising = omega (arith, rising)

-- after the variables of a lower kind come those of the next
row_by : (order : Order) (p : ℕ) → p + 1 ≤ order.kinds → row order (p + 1 + 1) ≡ row order (p + 1) + (order.kinds - (p + 1))
row_by order p within =
    let even = half_even p in
    let square = mul-le-mul_left p within in
    omega (arith, pair_is order p (p + 1 + 1), pair_is order (p + 1) (p + 1 + 1 + 1), number_next order.base order.kinds p even.0 even.1 square within)

pub row_next : (order : Order) (i : ℕ) → 0 < i → i ≤ order.kinds → row order (i + 1) ≡ row order i + (order.kinds - i)
row_next order i some within =
    let back : i - 1 + 1 ≡ i = omega (arith, some) in
    let next : i - 1 + 1 + 1 ≡ i + 1 = omega (arith, some) in
    let by = row_by order (i - 1) (omega (arith, back, within)) in
    omega (arith, by, ap (row order) back, ap (row order) next, back)

-- the variables of a lower kind come before those of a later one, which may be the last kind of all
pub below_row : (order : Order) (i j k : ℕ) → AreRisingTwo order i j → i < k → k ≤ order.kinds → pair_variable order i j < row order k
below_row order i j k two later within =
    let up_to = two.up_to in
    let rising = two.rising in
    let end : i + 1 + (k - (i + 1)) ≡ k = omega (arith, later) in
    omega (arith, in_row order i j rising, row_next order i two.from_one (omega (arith, later, within)), rises (i + 1) (k - (i + 1)) (omega (arith, two.from_one)) (omega (arith, end, within)), ap (row order) end, up_to, rising)
  where
    rises : (a n : ℕ) → 0 < a → a + n ≤ order.kinds → row order a ≤ row order (a + n)
    rises a zero some few = omega (arith, (let same : a + 0 ≡ a = omega arith in ap (row order) same))
    rises a (suc n) some few =
        let next : a + n + 1 ≡ a + suc n = omega arith in
        omega (arith, rises a n some (omega (arith, few)), row_next order (a + n) (omega (arith, some)) (omega (arith, few)), ap (row order) next)

-- each is after the variables before all pairs
pub above_base : (order : Order) (i j : ℕ) → AreRisingTwo order i j → order.base < pair_variable order i j
above_base order i j two = elim (cases_lt 1 i) [
  | inr first ↦
      let one : i ≡ 1 = omega (arith, first, two.from_one) in
      let at_one : row order 1 ≡ order.base + 1 = omega arith in
      omega (arith, in_row order i j two.rising, ap (row order) one, at_one)
  | inl later ↦
      let at_one : row order 1 ≡ order.base + 1 = omega arith in
      let up_to = two.up_to in
      let rising = two.rising in
      omega (arith, below_row order 1 2 i (record { from_one = omega arith; rising = omega arith; up_to = omega (arith, later, rising, up_to) }) later (omega (arith, rising, up_to)), in_row order i j rising, at_one)
]

-- two pairs of one variable are one
pub one_pair : (order : Order) (i j k l : ℕ) → AreRisingTwo order i j → AreRisingTwo order k l → pair_variable order i j ≡ pair_variable order k l → (i ≡ k) × (j ≡ l)
one_pair order i j k l first second same = elim (cases_lt i k) [
  | inl less ↦ absurd (omega (arith, below_row order i j k first less (omega (arith, second.rising, second.up_to)), in_row order k l second.rising, same))
  | inr not_less ↦ elim (cases_lt k i) [
    | inl more ↦ absurd (omega (arith, below_row order k l i second more (omega (arith, first.rising, first.up_to)), in_row order i j first.rising, same))
    | inr not_more ↦
        let one : i ≡ k = omega (arith, not_less, not_more) in
        (one, omega (arith, same, in_row order i j first.rising, in_row order k l second.rising, ap (row order) one, one, first.rising, second.rising))
  ]
]

-- the kinds of a variable, by its place among those of the lower kind
pub variable_found : (order : Order) (variable first rest : ℕ) → 0 < first → rest < order.kinds - first → row order first + rest ≡ variable → IsVariableOf order variable (record { first = first; second = first + 1 + rest })
variable_found order variable first rest some few is = record {
  kinds = record { from_one = some; rising = omega arith; up_to = omega (arith, few) };
  is = omega (arith, in_row order first (first + 1 + rest) (omega arith), is);
}

-- a variable after those of all pairs is of none, and so is one before
pub none_after : (order : Order) (variable last rest : ℕ) → (2 ≤ order.kinds → last ≡ order.kinds) → row order last + rest ≡ variable → IsOfNone order variable
none_after order variable last rest at_end is i j two same =
    let rising = two.rising in
    let up_to = two.up_to in
    let from = two.from_one in
    let end : last ≡ order.kinds = at_end (omega (arith, rising, up_to, from)) in
    omega (arith, below_row order i j order.kinds two (omega (arith, rising, up_to)) (omega arith), ap (row order) end, is, same)

pub none_before : (order : Order) (variable : ℕ) → variable ≤ order.base → IsOfNone order variable
none_before order variable low i j two same = omega (arith, above_base order i j two, low, same)

-- two kinds rise in one direction or the other
rising_or_falling : (order : Order) (x y : ℕ) → AreTwoKinds order x y → AreRisingTwo order x y ⊎ AreRisingTwo order y x
rising_or_falling order x y two = elim (cases_lt x y) [
  | inl up ↦ inl (record { from_one = two.from_one.0; rising = up; up_to = two.up_to.1 })
  | inr over ↦ inr (record { from_one = two.from_one.1; rising = omega (arith, over, two.distinct); up_to = two.up_to.0 })
]

-- the literal of a variable says which of its kinds comes first
pub positive_pair : (order : Order) (l : Lit) (pair : KindPair) → IsVariableOf order l.var pair → l.positive ≡ true → IsPair order l pair
positive_pair order l pair of positive = record {
  kinds = record {
    from_one = (of.kinds.from_one, omega (arith, of.kinds.from_one, of.kinds.rising));
    up_to = (omega (arith, of.kinds.rising, of.kinds.up_to), of.kinds.up_to);
    distinct = λ same. omega (arith, of.kinds.rising, same);
  };
  says = before_greater order pair.first pair.second of.kinds.rising ∙ literal;
  only = λ x y two is. elim (rising_or_falling order x y two) [
    | inl up ↦ one_pair order x y pair.first pair.second up of.kinds
        (ap (λ (k : Lit). k.var) (sym (before_greater order x y up.rising) ∙ is) ∙ sym of.is)
    | inr down ↦ absurd (let clash : false ≡ true = ap (λ (k : Lit). k.positive) (sym (before_lower order x y down.rising) ∙ is) ∙ positive in cc)
  ];
}
  where
    literal : record { var = pair_variable order pair.first pair.second; positive = true } ≡ l
    literal = ap (λ (v : ℕ). let k : Lit = record { var = v; positive = true } in k) of.is ∙ ap (λ (b : Bool). let k : Lit = record { var = l.var; positive = b } in k) (sym positive)

pub negative_pair : (order : Order) (l : Lit) (pair : KindPair) → IsVariableOf order l.var pair → l.positive ≡ false → IsPair order l (record { first = pair.second; second = pair.first })
negative_pair order l pair of negative = record {
  kinds = record {
    from_one = (omega (arith, of.kinds.from_one, of.kinds.rising), of.kinds.from_one);
    up_to = (of.kinds.up_to, omega (arith, of.kinds.rising, of.kinds.up_to));
    distinct = λ same. omega (arith, of.kinds.rising, same);
  };
  says = before_lower order pair.second pair.first of.kinds.rising ∙ literal;
  only = λ x y two is. elim (rising_or_falling order x y two) [
    | inl up ↦ absurd (let clash : true ≡ false = ap (λ (k : Lit). k.positive) (sym (before_greater order x y up.rising) ∙ is) ∙ negative in cc)
    | inr down ↦
        let one = one_pair order y x pair.first pair.second down of.kinds
        (ap (λ (k : Lit). k.var) (sym (before_lower order x y down.rising) ∙ is) ∙ sym of.is) in
        (one.1, one.0)
  ];
}
  where
    literal : record { var = pair_variable order pair.first pair.second; positive = false } ≡ l
    literal = ap (λ (v : ℕ). let k : Lit = record { var = v; positive = false } in k) of.is ∙ ap (λ (b : Bool). let k : Lit = record { var = l.var; positive = b } in k) (sym negative)

-- a literal whose variable is of none says nothing of kinds
pub no_pair : (order : Order) (l : Lit) → IsOfNone order l.var → IsNoPair order l
no_pair order l none x y two is = elim (rising_or_falling order x y two) [
  | inl up ↦ none x y up (ap (λ (k : Lit). k.var) (sym (before_greater order x y up.rising) ∙ is))
  | inr down ↦ none y x down (ap (λ (k : Lit). k.var) (sym (before_lower order x y down.rising) ∙ is))
]
