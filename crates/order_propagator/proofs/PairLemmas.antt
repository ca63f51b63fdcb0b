-- The pair of a literal turned round is that of its negation, and pairs that are known.
use Rattle.std.proofs.Common.{◌≡◌, ◌≢◌, inl, inr, ℕ, ◌+◌, ◌<◌, Bool, true, false, not, Some, List, length, get_or, refl, sym, ap, ◌∙◌, subst, arith}
use Rattle.std.specs.Prelude.{nat_lt}
use Rattle.std.proofs.lemmas.Bool.{cases_lt, cond-false, cond-true, le-ltb, lt-ltb}
use Rattle.std.proofs.lemmas.Option.{slice_get-get_or}
use Rattle.clause_core.specs.declared.literal.Lit.{Lit}
use Rattle.clause_core.specs.Literal.{negated}
use Rattle.order_axioms.specs.declared.kind_pair.KindPair.{KindPair}
use Rattle.order_axioms.specs.declared.order.Order.{Order}
use Rattle.order_axioms.specs.Cycles.{IsNoPair, IsPair}
use Rattle.order_axioms.specs.Order.{AreTwoKinds, comes_before, pair_variable}
use Rattle.order_propagator.specs.inner.Pairs.{ArePairs, positive}

-- the pair the other way round
abbrev pub turned : KindPair → KindPair
turned pair = record { first = pair.second; second = pair.first }

two-turned : (order : Order) (x y : ℕ) → AreTwoKinds order x y → AreTwoKinds order y x
two-turned order x y two = record {
  from_one = (two.from_one.1, two.from_one.0);
  up_to = (two.up_to.1, two.up_to.0);
  distinct = λ same. two.distinct (sym same);
}

-- that one kind comes before another denies the other way round
before-turned : (order : Order) (x y : ℕ) → x ≢ y → comes_before order y x ≡ negated (comes_before order x y)
before-turned order x y differ = elim (cases_lt x y) [
  | inl less ↦
      cond-false (nat_lt y x) (record { var = pair_variable order y x; positive = true }) (record { var = pair_variable order x y; positive = false }) (le-ltb y x (omega (arith, less))) ∙
      sym (ap negated (cond-true (nat_lt x y) (record { var = pair_variable order x y; positive = true }) (record { var = pair_variable order y x; positive = false }) (lt-ltb x y less)))
  | inr not_less ↦
      let less : y < x = omega (arith, not_less, differ) in
      cond-true (nat_lt y x) (record { var = pair_variable order y x; positive = true }) (record { var = pair_variable order x y; positive = false }) (lt-ltb y x less) ∙
      sym (ap negated (cond-false (nat_lt x y) (record { var = pair_variable order x y; positive = true }) (record { var = pair_variable order y x; positive = false }) (le-ltb x y (omega (arith, less)))))
]

not-not : (b : Bool) → not (not b) ≡ b
not-not true = refl
not-not false = refl

negated-twice : (l : Lit) → negated (negated l) ≡ l
negated-twice l = ap (λ (b : Bool). let k : Lit = record { var = l.var; positive = b } in k) (not-not l.positive)

-- who says of two kinds what the negation says, says of them the other way round what the literal says
says-turned : (order : Order) (l : Lit) (x y : ℕ) → AreTwoKinds order x y → comes_before order x y ≡ negated l → comes_before order y x ≡ l
says-turned order l x y two says = before-turned order x y two.distinct ∙ ap negated says ∙ negated-twice l

IsPair-negated : (order : Order) (l : Lit) (pair : KindPair) → IsPair order l pair → IsPair order (negated l) (turned pair)
IsPair-negated order l pair is = record {
  kinds = two-turned order pair.first pair.second is.kinds;
  says = before-turned order pair.first pair.second is.kinds.distinct ∙ ap negated is.says;
  only = λ x y two says.
      let same = is.only y x (two-turned order x y two) (says-turned order l x y two says) in
      (same.1, same.0);
}

IsNoPair-negated : (order : Order) (l : Lit) → IsNoPair order l → IsNoPair order (negated l)
IsNoPair-negated order l none x y two says = none y x (two-turned order x y two) (says-turned order l x y two says)

-- a literal by its sign
by-sign : (l : Lit) (sign : Bool) → l.positive ≡ sign → record { var = l.var; positive = sign } ≡ l
by-sign l sign is = ap (λ (b : Bool). let k : Lit = record { var = l.var; positive = b } in k) (sym is)

pub pair-positive : (order : Order) (l : Lit) (pair : KindPair) → l.positive ≡ true → IsPair order (positive l.var) pair → IsPair order l pair
pair-positive order l pair sign is = subst (λ (k : Lit). IsPair order k pair) (by-sign l true sign) is

pub pair-negative : (order : Order) (l : Lit) (pair : KindPair) → l.positive ≡ false → IsPair order (positive l.var) pair → IsPair order l (turned pair)
pair-negative order l pair sign is = subst (λ (k : Lit). IsPair order k (turned pair)) (by-sign l false sign) (IsPair-negated order (positive l.var) pair is)

pub no-pair : (order : Order) (l : Lit) → IsNoPair order (positive l.var) → IsNoPair order l
no-pair order l none = of_sign l.positive refl
  where
    of_sign : (sign : Bool) → l.positive ≡ sign → IsNoPair order l
    of_sign true is = subst (IsNoPair order) (by-sign l true is) none
    of_sign false is = subst (IsNoPair order) (by-sign l false is) (IsNoPair-negated order (positive l.var) none)

-- the pair in a cell is that of its variable
pub pair-known : (order : Order) (cells : List KindPair) (index variable : ℕ) (p d : KindPair) → ArePairs order cells → index < length cells → order.base + index + 1 ≡ variable → get_or cells index d ≡ p → IsPair order (positive variable) p
pair-known order cells index variable p d known within is got =
    subst (λ (v : ℕ). IsPair order (positive v) p) is (known.pair index p (slice_get-get_or cells index d within ∙ ap Some got))
