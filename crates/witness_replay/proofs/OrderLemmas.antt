-- The clauses of order make "stands before" transitive.
use Rattle.std.proofs.Common.{◌≡◌, ◌≢◌, inl, inr, ℕ, ◌<◌, Bool, true, false, [], ◌∷◌, Contains, sym, subst, arith}
use Rattle.std.specs.List.{flat_map}
use Rattle.std.proofs.lemmas.Bool.{both_ways, cases_Bool, cases_order}
use Rattle.std.proofs.lemmas.List.Elements.{All-contains}
use Rattle.list_base.proofs.Members.{here, there}
use Rattle.clause_core.specs.Clause.{Satisfies, SatisfiesAll}
use Rattle.clause_core.specs.Literal.{negated}
use Rattle.clause_core.specs.Written.{Written}
use Rattle.clause_encoding.specs.declared.variables.Variables.{Variables}
use Rattle.clause_encoding.specs.Families.{order_clauses, order_of_three}
use Rattle.clause_encoding.specs.Variables.{IsKind, kinds_following, stands_before}
use Rattle.witness_replay.specs.inner.Order.{is_before, StandsBefore}
use Rattle.witness_replay.proofs.KindLemmas.{among_after}
use Rattle.witness_replay.proofs.ListedLemmas.{joined_member}
use Rattle.witness_replay.proofs.LiteralLemmas.{fails_if_negated, not_both_before, other_before, passes_if_true, satisfied_three}

module _ (vars : Variables) (v : ℕ → Bool) (satisfied : SatisfiesAll v (order_clauses vars)) where
  -- three kinds in the order of their numbers have their clauses among those of order
  clause_of_three : (i j k : ℕ) (clause : Written) → IsKind vars i → IsKind vars j → IsKind vars k → i < j → j < k → Contains (order_of_three vars i j k) clause → Satisfies v clause
  clause_of_three i j k clause kind_i kind_j kind_k less more among =
      All-contains (Satisfies v) (order_clauses vars) clause satisfied
      (joined_member (λ a. flat_map (λ b. flat_map (order_of_three vars a b) (kinds_following vars b)) (kinds_following vars a)) (kinds_following vars 0) i clause (among_after vars 0 i kind_i.from_one kind_i)
      (joined_member (λ b. flat_map (order_of_three vars i b) (kinds_following vars b)) (kinds_following vars i) j clause (among_after vars i j less kind_j)
      (joined_member (order_of_three vars i j) (kinds_following vars j) k clause (among_after vars j k more kind_k) among)))

  -- two steps forward make one
  forward : (i j k : ℕ) → IsKind vars i → IsKind vars j → IsKind vars k → i < j → j < k → is_before vars v i j ≡ true → is_before vars v j k ≡ true → is_before vars v i k ≡ true
  forward i j k kind_i kind_j kind_k less more one other =
      let ij = stands_before vars i j in
      let jk = stands_before vars j k in
      let ik = stands_before vars i k in
      let clause = clause_of_three i j k (negated ij ∷ negated jk ∷ ik ∷ []) kind_i kind_j kind_k less more (here (negated ij ∷ negated jk ∷ ik ∷ []) ((ij ∷ jk ∷ negated ik ∷ []) ∷ [])) in
      elim (satisfied_three v (negated ij) (negated jk) ik clause) [
        | inl fails ↦ absurd (fails_if_negated v ij fails one)
        | inr (inl fails) ↦ absurd (fails_if_negated v jk fails other)
        | inr (inr holds) ↦ passes_if_true v ik holds
      ]

  -- and so do two steps back
  backward : (i j k : ℕ) → IsKind vars i → IsKind vars j → IsKind vars k → i < j → j < k → is_before vars v i j ≡ false → is_before vars v j k ≡ false → is_before vars v i k ≡ true → ⊥
  backward i j k kind_i kind_j kind_k less more one other back =
      let ij = stands_before vars i j in
      let jk = stands_before vars j k in
      let ik = stands_before vars i k in
      let clause = clause_of_three i j k (ij ∷ jk ∷ negated ik ∷ []) kind_i kind_j kind_k less more (there (negated ij ∷ negated jk ∷ ik ∷ []) ((ij ∷ jk ∷ negated ik ∷ []) ∷ []) (ij ∷ jk ∷ negated ik ∷ []) (here (ij ∷ jk ∷ negated ik ∷ []) [])) in
      elim (satisfied_three v ij jk (negated ik) clause) [
        | inl holds ↦ both_ways (is_before vars v i j) one (passes_if_true v ij holds)
        | inr (inl holds) ↦ both_ways (is_before vars v j k) other (passes_if_true v jk holds)
        | inr (inr fails) ↦ fails_if_negated v ik fails back
      ]

  -- no three kinds stand in a round from the lowest
  least_in_round : (a b c : ℕ) → IsKind vars a → IsKind vars b → IsKind vars c → a < b → a < c → StandsBefore vars v a b → StandsBefore vars v b c → StandsBefore vars v c a → ⊥
  least_in_round a b c kind_a kind_b kind_c least lower ab bc ca =
      elim (cases_order b c) [
        | inl same ↦ bc.apart same
        | inr (inl less) ↦ not_both_before vars v c a ca.apart ca.before (forward a b c kind_a kind_b kind_c least less ab.before bc.before)
        | inr (inr more) ↦ backward a c b kind_a kind_c kind_b lower more (after ca) (after bc) ab.before
      ]
    where
      after : {i j : ℕ} → StandsBefore vars v i j → is_before vars v j i ≡ false
      after {i} {j} ij = elim (cases_Bool (is_before vars v j i)) [ inl holds ↦ absurd (not_both_before vars v i j ij.apart ij.before holds) | inr none ↦ none ]

  -- no three kinds stand in a round
  no_round : (a b c : ℕ) → IsKind vars a → IsKind vars b → IsKind vars c → StandsBefore vars v a b → StandsBefore vars v b c → StandsBefore vars v c a → ⊥
  no_round a b c kind_a kind_b kind_c ab bc ca =
      elim (cases_order a b) [
        | inl same ↦ ab.apart same
        | inr (inl less) ↦ elim (cases_order a c) [
          | inl same ↦ ca.apart (sym same)
          | inr (inl lower) ↦ least_in_round a b c kind_a kind_b kind_c less lower ab bc ca
          | inr (inr higher) ↦ least_in_round c a b kind_c kind_a kind_b higher (omega arith) ca ab bc
        ]
        | inr (inr more) ↦ elim (cases_order b c) [
          | inl same ↦ bc.apart same
          | inr (inl lower) ↦ least_in_round b c a kind_b kind_c kind_a lower more bc ca ab
          | inr (inr higher) ↦ least_in_round c a b kind_c kind_a kind_b (omega arith) higher ca ab bc
        ]
      ]

  -- a kind before one that is before a third is before the third
  pub before_goes_on : (a b c : ℕ) → IsKind vars a → IsKind vars b → IsKind vars c → StandsBefore vars v a b → StandsBefore vars v b c → StandsBefore vars v a c
  before_goes_on a b c kind_a kind_b kind_c ab bc =
      let apart : a ≢ c = λ same. not_both_before vars v a b ab.apart ab.before (subst (λ k. is_before vars v b k ≡ true) (sym same) bc.before) in
      record {
        apart = apart;
        before = elim (cases_Bool (is_before vars v a c)) [
          | inl holds ↦ holds
          | inr none ↦ absurd (no_round a b c kind_a kind_b kind_c ab bc (record { apart = λ same. apart (sym same); before = other_before vars v a c apart none }))
        ];
      }
