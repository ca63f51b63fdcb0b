-- Tables that are filled in the order of a list of indices.
use Rattle.std.proofs.Common.{◌≡◌, ℕ, ◌+◌, ◌<◌, ◌≤◌, List, inl, inr, Some, Ok, Err, Result, IfOk, length, take, get_or, set, slice_get, sym, ap, ◌∙◌, subst, arith, All, Contains}
use Rattle.std.proofs.lemmas.Bool.{cases_eq, cases_lt}
use Rattle.std.proofs.lemmas.List.{get_or-set_same, get_or-set_other}
use Rattle.std.proofs.lemmas.Option.{slice_get-get_or}
use Rattle.list_base.specs.declared.memory.NoMemory.{NoMemory}
use Rattle.list_base.proofs.Membership.{early_index}

-- the table has its value at each of the first i indices of the order
pub record AreFilled {X : Type 0} (d : X) (f : ℕ → X) (order : List ℕ) (table : List X) (i : ℕ) : Type 0 where
  pub filled : (k a : ℕ) → k < i → slice_get order k ≡ Some a → get_or table a d ≡ f a

-- one more value is set
pub AreFilled-more : {X : Type 0} (d : X) (f : ℕ → X) (order : List ℕ) (table : List X) (i a : ℕ) → slice_get order i ≡ Some a → a < length table → AreFilled d f order table i → AreFilled d f order (set table a (f a)) (i + 1)
AreFilled-more d f order table i a at within are = record { filled = more }
  where
    more : (k b : ℕ) → k < i + 1 → slice_get order k ≡ Some b → get_or (set table a (f a)) b d ≡ f b
    more k b early at_k = elim (cases_eq b a) [
      | inl same ↦ ap (λ c. get_or (set table a (f a)) c d) same ∙ get_or-set_same table a (f a) d within ∙ ap f (sym same)
      | inr other ↦ get_or-set_other table a b (f a) d other ∙ elim (cases_lt k i) [
        | inl before ↦ are.filled k b before at_k
        | inr here ↦ let same : k ≡ i = omega arith in
            absurd (other (let e : Some b ≡ Some a = sym at_k ∙ ap (slice_get order) same ∙ at in cc))
      ]
    ]

-- the values of earlier indices are set
pub filled_before : {X : Type 0} (d : X) (f : ℕ → X) (order : List ℕ) (table : List X) (i : ℕ) (bs : List ℕ) → All (Contains (take i order)) bs → AreFilled d f order table i → All (λ b. get_or table b d ≡ f b) bs
filled_before d f order table i bs early are = λ j e within.
    let index = early_index order i (get_or bs j e) (early j e within) in
    are.filled index.0 (get_or bs j e) index.1 index.2

-- all values are set
pub all_filled : {X : Type 0} (d : X) (f : ℕ → X) (order : List ℕ) (table : List X) (i : ℕ) → All (λ a. a < length table) order → length order ≤ i → AreFilled d f order table i → All (λ a. slice_get table a ≡ Some (f a)) order
all_filled d f order table i fits all are k e within =
    let a = get_or order k e in
    slice_get-get_or table a d (fits k e within) ∙ ap Some (are.filled k a (omega arith) (slice_get-get_or order k e within))

-- what holds of the items holds of a list of them
pub holds_of_list : {X : Type 0} (result : Result (List X) NoMemory) (table : List X) (P : List X → Type 0) {items : List X} → IfOk result (λ list. list ≡ items) → items ≡ table → P table → IfOk result P
holds_of_list (Ok list) table P are same holds = subst P (sym (are ∙ same)) holds
holds_of_list (Err refusal) table P are same holds = tt
