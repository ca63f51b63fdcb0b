-- First positions order the kinds, and a kind that occurs comes before one that does not.
use Rattle.std.proofs.Common.{◌≡◌, ◌≢◌, ◌⊎◌, inl, inr, ℕ, ◌<◌, Bool, true, not, List, [], ◌∷◌, map, sym, ap, ◌∙◌, arith}
use Rattle.std.specs.Prelude.{◌==◌}
use Rattle.std.specs.List.{filter, flat_map}
use Rattle.std.proofs.lemmas.Bool.{cases_Bool, eqb-false, not-true}
use Rattle.std.proofs.lemmas.List.Elements.{All-cons, All-nil}
use Rattle.list_base.proofs.Filtered.{filtered_member}
use Rattle.bspl_types.specs.declared.event.Event.{Event}
use Rattle.bspl_types.specs.declared.value.Value.{Value}
use Rattle.clause_core.specs.Clause.{Satisfies, SatisfiesAll}
use Rattle.clause_core.specs.Literal.{MakesTrue, negated}
use Rattle.clause_encoding.specs.declared.variables.Variables.{Variables}
use Rattle.clause_encoding.specs.Families.{occurrence_clauses, order_clauses, order_of_three}
use Rattle.clause_encoding.specs.Variables.{IsKind, kinds_following, occurs, stands_before}
use Rattle.first_occurrences.specs.Occurrence.{comes_first, first_position, is_occurring}
use Rattle.first_occurrences.specs.Report.{Reports}
use Rattle.first_occurrences.proofs.BeforeLemmas.{before_is_false, before_is_true, first_from_order, InOrder, occurs_is_false, occurs_is_true, opposite_first, order_from_first}
use Rattle.first_occurrences.proofs.KindLemmas.{any_of_three, kind_after}
use Rattle.first_occurrences.proofs.ListedLemmas.{each_joined, each_mapped}
use Rattle.first_occurrences.proofs.PositionLemmas.{position_of_none, position_within}

-- of two kinds one or the other comes first
either_first : (run : List Event) (key : List Value) (i j : ℕ) → i ≢ j → (comes_first run key i j ≡ true) ⊎ (comes_first run key j i ≡ true)
either_first run key i j distinct = elim (cases_Bool (comes_first run key i j)) [
  | inl first ↦ inl first
  | inr other ↦ inr (opposite_first run key i j distinct ∙ ap not other)
]

-- what is before a second is before all that the second is before
order_goes_on : (a b c i j k : ℕ) → InOrder a b i j → InOrder b c j k → InOrder a c i k
order_goes_on a b c i j k one other = grind arith

-- so it is with kinds
first_goes_on : (run : List Event) (key : List Value) (i j k : ℕ) → comes_first run key i j ≡ true → comes_first run key j k ≡ true → comes_first run key i k ≡ true
first_goes_on run key i j k one other =
    first_from_order run key i k
    (order_goes_on (first_position run key i) (first_position run key j) (first_position run key k) i j k (order_from_first run key i j one) (order_from_first run key j k other))

module _ (vars : Variables) (run : List Event) (key : List Value) (v : ℕ → Bool) (reports : Reports vars run key v) where
  -- two steps forward make one
  forward : (i j k : ℕ) → IsKind vars i → IsKind vars j → IsKind vars k → i < j → j < k → MakesTrue v (negated (stands_before vars i j)) ⊎ (MakesTrue v (negated (stands_before vars j k)) ⊎ MakesTrue v (stands_before vars i k))
  forward i j k kind_i kind_j kind_k less more =
      elim (either_first run key i j (omega arith)) [
        | inr back ↦ inl ((before_is_false vars run key v i j reports kind_i kind_j (omega arith)).1 back)
        | inl one ↦ elim (either_first run key j k (omega arith)) [
          | inr back ↦ inr (inl ((before_is_false vars run key v j k reports kind_j kind_k (omega arith)).1 back))
          | inl other ↦ inr (inr ((before_is_true vars run key v i k reports kind_i kind_k (omega arith)).1 (first_goes_on run key i j k one other)))
        ]
      ]

  -- and two steps back
  backward : (i j k : ℕ) → IsKind vars i → IsKind vars j → IsKind vars k → i < j → j < k → MakesTrue v (stands_before vars i j) ⊎ (MakesTrue v (stands_before vars j k) ⊎ MakesTrue v (negated (stands_before vars i k)))
  backward i j k kind_i kind_j kind_k less more =
      elim (either_first run key i j (omega arith)) [
        | inl one ↦ inl ((before_is_true vars run key v i j reports kind_i kind_j (omega arith)).1 one)
        | inr back ↦ elim (either_first run key j k (omega arith)) [
          | inl other ↦ inr (inl ((before_is_true vars run key v j k reports kind_j kind_k (omega arith)).1 other))
          | inr far ↦ inr (inr ((before_is_false vars run key v i k reports kind_i kind_k (omega arith)).1 (first_goes_on run key k j i far back)))
        ]
      ]

  -- both clauses of three kinds
  satisfies_three : (i j k : ℕ) → IsKind vars i → IsKind vars j → IsKind vars k → i < j → j < k → SatisfiesAll v (order_of_three vars i j k)
  satisfies_three i j k kind_i kind_j kind_k less more =
      let one = stands_before vars i j in
      let other = stands_before vars j k in
      let both = stands_before vars i k in
      All-cons (Satisfies v) (negated one ∷ negated other ∷ both ∷ []) ((one ∷ other ∷ negated both ∷ []) ∷ [])
      (any_of_three (MakesTrue v) (negated one) (negated other) both (forward i j k kind_i kind_j kind_k less more))
      (All-cons (Satisfies v) (one ∷ other ∷ negated both ∷ []) []
      (any_of_three (MakesTrue v) one other (negated both) (backward i j k kind_i kind_j kind_k less more)) (All-nil (Satisfies v)))

  -- the clauses of order
  pub satisfies_order : SatisfiesAll v (order_clauses vars)
  satisfies_order =
      each_joined (Satisfies v) (λ i. flat_map (λ j. flat_map (order_of_three vars i j) (kinds_following vars j)) (kinds_following vars i)) (kinds_following vars 0)
      (λ i among_i.
      let (after_zero, kind_i) = kind_after vars 0 i among_i in
      each_joined (Satisfies v) (λ j. flat_map (order_of_three vars i j) (kinds_following vars j)) (kinds_following vars i)
      (λ j among_j.
      let (less, kind_j) = kind_after vars i j among_j in
      each_joined (Satisfies v) (order_of_three vars i j) (kinds_following vars j)
      (λ k among_k.
      let (more, kind_k) = kind_after vars j k among_k in
      satisfies_three i j k kind_i kind_j kind_k less more)))

  -- a kind that occurs comes before one that does not
  occurring_first : (i j : ℕ) → IsKind vars i → IsKind vars j → i ≢ j → MakesTrue v (negated (occurs i)) ⊎ (MakesTrue v (occurs j) ⊎ MakesTrue v (stands_before vars i j))
  occurring_first i j kind_i kind_j distinct =
      elim (cases_Bool (is_occurring run key i)) [
        | inr never ↦ inl ((occurs_is_false vars run key v i reports kind_i).1 never)
        | inl occurring ↦ elim (cases_Bool (is_occurring run key j)) [
          | inl also ↦ inr (inl ((occurs_is_true vars run key v j reports kind_j).1 also))
          | inr never ↦
              let within = position_within run key i occurring in
              let last = position_of_none run key j never in
              let less : first_position run key i < first_position run key j = omega (arith, within, last) in
              inr (inr ((before_is_true vars run key v i j reports kind_i kind_j distinct).1 (first_from_order run key i j (inl less))))
        ]
      ]

  -- the clauses of occurrence
  pub satisfies_occurrence : SatisfiesAll v (occurrence_clauses vars)
  satisfies_occurrence =
      each_joined (Satisfies v) (λ i. map (λ j. negated (occurs i) ∷ occurs j ∷ stands_before vars i j ∷ []) (filter (λ j. not (j == i)) (kinds_following vars 0))) (kinds_following vars 0)
      (λ i among_i.
      let (after_zero, kind_i) = kind_after vars 0 i among_i in
      each_mapped (Satisfies v) (λ j. negated (occurs i) ∷ occurs j ∷ stands_before vars i j ∷ []) (filter (λ j. not (j == i)) (kinds_following vars 0))
      (λ j among_j.
      let (kept, passes) = filtered_member (λ n. not (n == i)) (kinds_following vars 0) j among_j in
      let (also_after_zero, kind_j) = kind_after vars 0 j kept in
      let differs = eqb-false j i (not-true (j == i) passes) in
      any_of_three (MakesTrue v) (negated (occurs i)) (occurs j) (stands_before vars i j) (occurring_first i j kind_i kind_j (λ same. differs (sym same)))))
