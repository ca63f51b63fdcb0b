-- A kind put among kinds that are in their order.
use Rattle.std.proofs.Common.{◌≡◌, ◌⊎◌, inl, inr, ℕ, suc, ◌+◌, ◌<◌, Bool, true, false, not, List, [], ◌∷◌, ◌++◌, All, Contains, sym, ap, ◌∙◌, subst, arith}
use Rattle.std.specs.List.{AllPairs, filter}
use Rattle.std.proofs.lemmas.Bool.{both_ways, cases_Bool, cases_lt, not-true}
use Rattle.std.proofs.lemmas.List.Elements.{All-append, Contains-append_cases, Contains-append_left, Contains-append_right}
use Rattle.std.proofs.lemmas.List.Kept.{AllPairs-cons, AllPairs-filter}
use Rattle.list_base.proofs.Filtered.{filtered_member, kept_member}
use Rattle.list_base.proofs.Members.{cons_cases, here, there}
use Rattle.clause_core.specs.Clause.{SatisfiesAll}
use Rattle.clause_encoding.specs.declared.variables.Variables.{Variables}
use Rattle.clause_encoding.specs.Families.{order_clauses}
use Rattle.clause_encoding.specs.Variables.{IsKind}
use Rattle.witness_replay.specs.Witness.{AreOrdered}
use Rattle.witness_replay.specs.inner.Order.{AreOrderedBelow, inserted, is_before, IsAnotherKind, StandsBefore}
use Rattle.witness_replay.proofs.ListedLemmas.{each_member}
use Rattle.witness_replay.proofs.LiteralLemmas.{other_before, true_if_passes}
use Rattle.witness_replay.proofs.OrderLemmas.{before_goes_on}

-- the first item is related to each later one
pairs_head : {X : Type 0} (R : X → X → Type 0) (x : X) (xs : List X) → AllPairs R (x ∷ xs) → All (R x) xs
pairs_head R x xs pairs k d within = pairs 0 (suc k) d (omega arith) (omega (arith, within))

-- and so are the later ones
pairs_tail : {X : Type 0} (R : X → X → Type 0) (x : X) (xs : List X) → AllPairs R (x ∷ xs) → AllPairs R xs
pairs_tail R x xs pairs i j d less within = pairs (suc i) (suc j) d (omega (arith, less)) (omega (arith, within))

-- two lists whose items are related, and each of the first with each of the second
pub pairs_append : {X : Type 0} (R : X → X → Type 0) (xs ys : List X) → AllPairs R xs → AllPairs R ys → ((x y : X) → Contains xs x → Contains ys y → R x y) → AllPairs R (xs ++ ys)
pairs_append R [] ys one other across = other
pairs_append R (x ∷ xs) ys one other across =
    AllPairs-cons R x (xs ++ ys)
    (All-append (R x) xs ys (pairs_head R x xs one) (each_member (R x) ys (λ y among. across x y (here x xs) among)))
    (pairs_append R xs ys (pairs_tail R x xs one) other (λ y z among later. across y z (there x xs y among) later))

module _ (vars : Variables) (v : ℕ → Bool) (kind : ℕ) (kinds : List ℕ) where
  -- the kinds that come before it
  abbrev before : List ℕ
  before = filter (λ k. is_before vars v k kind) kinds

  -- the others
  abbrev after : List ℕ
  after = filter (λ k. not (is_before vars v k kind)) kinds

  -- what is in the longer list is the kind, or was in the list
  pub inserted_from : (k : ℕ) → Contains (inserted vars v kind kinds) k → (k ≡ kind) ⊎ Contains kinds k
  inserted_from k among = elim (Contains-append_cases before (kind ∷ after) k among) [
    | inl early ↦ inr (filtered_member (λ j. is_before vars v j kind) kinds k early).0
    | inr late ↦ elim (cons_cases kind after k late) [
      | inl is ↦ inl (sym is)
      | inr later ↦ inr (filtered_member (λ j. not (is_before vars v j kind)) kinds k later).0
    ]
  ]

  -- the kind is in it
  pub inserted_itself : Contains (inserted vars v kind kinds) kind
  inserted_itself = Contains-append_right before (kind ∷ after) kind (here kind after)

  -- and what was in the list
  pub inserted_other : (k : ℕ) → Contains kinds k → Contains (inserted vars v kind kinds) k
  inserted_other k among = elim (cases_Bool (is_before vars v k kind)) [
    | inl early ↦ Contains-append_left before (kind ∷ after) k (kept_member (λ j. is_before vars v j kind) kinds k early among)
    | inr late ↦ Contains-append_right before (kind ∷ after) k (there kind after k (kept_member (λ j. not (is_before vars v j kind)) kinds k (ap not late) among))
  ]

  -- if the kinds are in their order and others than the kind, then so is the longer list
  pub inserted_ordered : SatisfiesAll v (order_clauses vars) → IsKind vars kind → ((k : ℕ) → Contains kinds k → IsAnotherKind vars kind k) → AllPairs (StandsBefore vars v) kinds → AllPairs (StandsBefore vars v) (inserted vars v kind kinds)
  inserted_ordered satisfied is_kind others ordered =
      pairs_append (StandsBefore vars v) before (kind ∷ after)
      (AllPairs-filter (StandsBefore vars v) (λ k. is_before vars v k kind) kinds ordered)
      (AllPairs-cons (StandsBefore vars v) kind after (each_member (StandsBefore vars v kind) after comes_after)
      (AllPairs-filter (StandsBefore vars v) (λ k. not (is_before vars v k kind)) kinds ordered))
      (λ i j early late. elim (cons_cases kind after j late) [
        | inl is ↦ subst (StandsBefore vars v i) is (comes_before i early)
        | inr later ↦
            let member = (filtered_member (λ k. is_before vars v k kind) kinds i early).0 in
            let other = (filtered_member (λ k. not (is_before vars v k kind)) kinds j later).0 in
            before_goes_on vars v satisfied i kind j (others i member).is_kind is_kind (others j other).is_kind (comes_before i early) (comes_after j later)
      ])
    where
      comes_before : (k : ℕ) → Contains before k → StandsBefore vars v k kind
      comes_before k early =
          let (member, passes) = filtered_member (λ j. is_before vars v j kind) kinds k early in
          record { apart = (others k member).apart; before = passes }

      comes_after : (k : ℕ) → Contains after k → StandsBefore vars v kind k
      comes_after k late =
          let (member, fails) = filtered_member (λ j. not (is_before vars v j kind)) kinds k late in
          let apart = (others k member).apart in
          record { apart = λ same. apart (sym same); before = other_before vars v k kind apart (not-true (is_before vars v k kind) fails) }

-- kinds below a number are others than it
pub others_below : (vars : Variables) (v : ℕ → Bool) (n : ℕ) (kinds : List ℕ) → AreOrderedBelow vars v n kinds → (k : ℕ) → Contains kinds k → IsAnotherKind vars n k
others_below vars v n kinds below k among =
    let (is_kind, less, occurs) = (below.occurring k).0 among in
    record { is_kind = is_kind; apart = λ same. absurd (omega arith) }

-- one more kind, which occurs
pub ordered_more : (vars : Variables) (v : ℕ → Bool) (n : ℕ) (kinds : List ℕ) → SatisfiesAll v (order_clauses vars) → IsKind vars n → v n ≡ true → AreOrderedBelow vars v n kinds → AreOrderedBelow vars v (n + 1) (inserted vars v n kinds)
ordered_more vars v n kinds satisfied is_kind occurs below =
    record {
      occurring = λ k. (
        (λ among. elim (inserted_from vars v n kinds k among) [
          | inl is ↦ subst (λ m. IsKind vars m × (m < n + 1) × (v m ≡ true)) (sym is) (is_kind, omega arith, occurs)
          | inr old ↦ let (kind_k, less, occurs_k) = (below.occurring k).0 old in (kind_k, omega arith, occurs_k)
        ]),
        (λ (kind_k, less, occurs_k). elim (cases_lt k n) [
          | inl lower ↦ inserted_other vars v n kinds k ((below.occurring k).1 (kind_k, lower, occurs_k))
          | inr higher ↦ let same : n ≡ k = omega arith in subst (Contains (inserted vars v n kinds)) same (inserted_itself vars v n kinds)
        ]),
      );
      ordered = inserted_ordered vars v n kinds satisfied is_kind (others_below vars v n kinds below) below.ordered;
    }

-- one more kind, which does not occur
pub ordered_same : (vars : Variables) (v : ℕ → Bool) (n : ℕ) (kinds : List ℕ) → v n ≡ false → AreOrderedBelow vars v n kinds → AreOrderedBelow vars v (n + 1) kinds
ordered_same vars v n kinds never below =
    record {
      occurring = λ k. (
        (λ among. let (kind_k, less, occurs_k) = (below.occurring k).0 among in (kind_k, omega arith, occurs_k)),
        (λ (kind_k, less, occurs_k). elim (cases_lt k n) [
          | inl lower ↦ (below.occurring k).1 (kind_k, lower, occurs_k)
          | inr higher ↦ let same : k ≡ n = omega arith in absurd (both_ways (v k) (ap v same ∙ never) occurs_k)
        ]),
      );
      ordered = below.ordered;
    }

-- no kind is below the first one
pub ordered_none : (vars : Variables) (v : ℕ → Bool) → AreOrderedBelow vars v 1 []
ordered_none vars v = record {
  occurring = λ k. (λ among. absurd (omega (arith, among.1)), λ (kind_k, less, occurs_k). let from_one = kind_k.from_one in absurd (omega arith));
  ordered = λ i j d less within. absurd (omega (arith, within));
}

-- the kinds below the first number past the last kind are all that occur
pub ordered_all : (vars : Variables) (v : ℕ → Bool) (n : ℕ) (kinds : List ℕ) → vars.kinds < n → AreOrderedBelow vars v n kinds → AreOrdered vars v kinds
ordered_all vars v n kinds past below =
    record {
      occurring = λ k. (
        (λ among. let (kind_k, less, occurs_k) = (below.occurring k).0 among in (kind_k, occurs_k)),
        (λ (kind_k, occurs_k). let up_to = kind_k.up_to in (below.occurring k).1 (kind_k, omega arith, occurs_k)),
      );
      ordered = λ i j d less within. let pair = below.ordered i j d less within in (pair.apart, true_if_passes v _ pair.before);
    }
