-- Literals and the values that they have, and lists of three of them.
use Rattle.std.proofs.Common.{◌≡◌, ◌≢◌, ◌⊎◌, inl, inr, ℕ, ◌<◌, Bool, true, false, not, Option, Some, None, List, [], ◌∷◌, Contains, get_or, refl, sym, ap, ◌∙◌, subst, arith}
use Rattle.std.proofs.lemmas.Bool.{cases_lt, cond-false, cond-true, le-ltb, lt-ltb}
use Rattle.std.proofs.lemmas.List.Elements.{Contains-get_or}
use Rattle.std.specs.Prelude.{nat_lt}
use Rattle.list_base.proofs.Members.{cons_cases, here, only, there}
use Rattle.clause_core.specs.declared.literal.Lit.{Lit}
use Rattle.clause_core.specs.Literal.{negated}
use Rattle.clause_core.specs.Propagation.{Falsifies, MakesFalse}
use Rattle.order_axioms.specs.declared.order.Order.{Order}
use Rattle.order_axioms.specs.Order.{AreKinds, ForbidsCycle, comes_before, pair_variable}
use Rattle.order_propagator.specs.inner.Closed.{IsSetTrue}

-- one of three literals
pub one_of : (a b c l : Lit) → Contains (a ∷ b ∷ c ∷ []) l → (a ≡ l) ⊎ ((b ≡ l) ⊎ (c ≡ l))
one_of a b c l among = elim (cons_cases a (b ∷ c ∷ []) l among) [
  | inl first ↦ inl first
  | inr rest ↦ inr (elim (cons_cases b (c ∷ []) l rest) [ inl second ↦ inl second | inr last ↦ inr (only c l last) ])
]

pub first_among : (a b c : Lit) → Contains (a ∷ b ∷ c ∷ []) a
first_among a b c = here a (b ∷ c ∷ [])

pub second_among : (a b c : Lit) → Contains (a ∷ b ∷ c ∷ []) b
second_among a b c = there a (b ∷ c ∷ []) b (here b (c ∷ []))

pub third_among : (a b c : Lit) → Contains (a ∷ b ∷ c ∷ []) c
third_among a b c = there a (b ∷ c ∷ []) c (there b (c ∷ []) c (here c []))

-- three literals in another order
turns : (a b c l : Lit) → Contains (a ∷ b ∷ c ∷ []) l → Contains (c ∷ a ∷ b ∷ []) l
turns a b c l among = elim (one_of a b c l among) [
  | inl first ↦ subst (Contains (c ∷ a ∷ b ∷ [])) first (second_among c a b)
  | inr rest ↦ elim rest [
    | inl second ↦ subst (Contains (c ∷ a ∷ b ∷ [])) second (third_among c a b)
    | inr third ↦ subst (Contains (c ∷ a ∷ b ∷ [])) third (first_among c a b)
  ]
]

-- a clause that forbids a cycle forbids it from its last kind on
pub ForbidsCycle-turned : (order : Order) (number x y z : ℕ) → ForbidsCycle order number x y z → ForbidsCycle order number z x y
ForbidsCycle-turned order number x y z forbids =
    let a = negated (comes_before order x y) in
    let b = negated (comes_before order y z) in
    let c = negated (comes_before order z x) in
    record {
      clause = forbids.clause;
      has_number = forbids.has_number;
      exactly = λ l. (
        λ among. turns a b c l ((forbids.exactly l).0 among),
        λ among. (forbids.exactly l).1 (turns b c a l (turns c a b l among)),
      );
    }

pub AreKinds-turned : (order : Order) (x y z : ℕ) → AreKinds order x y z → AreKinds order y z x
AreKinds-turned order x y z kinds = record {
  from_one = (kinds.from_one.1, kinds.from_one.2, kinds.from_one.0);
  up_to = (kinds.up_to.1, kinds.up_to.2, kinds.up_to.0);
  distinct = (kinds.distinct.1, kinds.distinct.2, kinds.distinct.0);
}

-- one kind comes before another exactly if the other does not come before it
pub other_way : (order : Order) (x z : ℕ) → z ≢ x → negated (comes_before order z x) ≡ comes_before order x z
other_way order x z differ = elim (cases_lt x z) [
  | inl less ↦
      ap negated (cond-false (nat_lt z x) (record { var = pair_variable order z x; positive = true }) (record { var = pair_variable order x z; positive = false }) (le-ltb z x (omega (arith, less)))) ∙
      sym (cond-true (nat_lt x z) (record { var = pair_variable order x z; positive = true }) (record { var = pair_variable order z x; positive = false }) (lt-ltb x z less))
  | inr not_less ↦
      let less : z < x = omega (arith, not_less, differ) in
      ap negated (cond-true (nat_lt z x) (record { var = pair_variable order z x; positive = true }) (record { var = pair_variable order x z; positive = false }) (lt-ltb z x less)) ∙
      sym (cond-false (nat_lt x z) (record { var = pair_variable order x z; positive = true }) (record { var = pair_variable order z x; positive = false }) (le-ltb x z (omega (arith, less))))
]

-- negation undoes itself, and changes a truth value
not-not : (b : Bool) → not (not b) ≡ b
not-not true = refl
not-not false = refl

not-same : (b : Bool) → b ≢ not b
not-same true same = cc
not-same false same = cc

-- two truth values are one or opposite
pub cases_sign : (a b : Bool) → (a ≡ b) ⊎ (a ≡ not b)
cases_sign true true = inl refl
cases_sign true false = inr refl
cases_sign false true = inr refl
cases_sign false false = inl refl

-- literals of one variable and one sign are one
pub same_literal : (l m : Lit) → l.var ≡ m.var → l.positive ≡ m.positive → l ≡ m
same_literal l m variables signs =
    ap (λ (v : ℕ). let k : Lit = record { var = v; positive = l.positive } in k) variables ∙ ap (λ (b : Bool). let k : Lit = record { var = m.var; positive = b } in k) signs

-- what denies a true literal is false, and the other way round
pub denial_fails : (values : ℕ → Option Bool) (l : Lit) → IsSetTrue values l → MakesFalse values (negated l)
denial_fails values l holds = holds ∙ ap Some (sym (not-not l.positive))

pub denied_holds : (values : ℕ → Option Bool) (l : Lit) → MakesFalse values (negated l) → IsSetTrue values l
denied_holds values l fails = fails ∙ ap Some (not-not l.positive)

-- a literal is not true and false
pub true_false : (values : ℕ → Option Bool) (l : Lit) → IsSetTrue values l → MakesFalse values l → ⊥
true_false values l holds fails =
    let both : Some l.positive ≡ Some (not l.positive) = sym holds ∙ fails in
    not-same l.positive (let same : l.positive ≡ not l.positive = cc in same)

-- nor true without a value
pub true_unset : (values : ℕ → Option Bool) (l : Lit) → IsSetTrue values l → values l.var ≡ None → ⊥
true_unset values l holds unset = let clash : Some l.positive ≡ None = sym holds ∙ unset in cc

-- a clause is false if each of its literals is
pub all_false : (values : ℕ → Option Bool) (clause : List Lit) → ((l : Lit) → Contains clause l → MakesFalse values l) → Falsifies values clause
all_false values clause fails k d within = fails (get_or clause k d) (Contains-get_or clause k d within)
