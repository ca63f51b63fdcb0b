-- Members of lists and their indices, and what the first items of a list keep.
use Rattle.std.proofs.Common.{◌≡◌, ◌≢◌, ℕ, ◌<◌, List, ◌∷◌, ◌++◌, inl, inr, Some, length, take, slice_get, refl, sym, ap, ◌∙◌, subst, arith, All, Contains, length-append, length-take}
use Rattle.std.specs.List.{AllPairs}
use Rattle.std.proofs.lemmas.Bool.{cases_order}
use Rattle.std.proofs.lemmas.List.{get_or-take, get_or_at, get_or_append_left}
use Rattle.std.proofs.lemmas.Option.{slice_get-get_or, slice_get_within, get_or_from_slice_get}

-- the item at an index is a member
pub member_at : {X : Type 0} (xs : List X) (k : ℕ) (x : X) → slice_get xs k ≡ Some x → Contains xs x
member_at xs k x at = (k, slice_get_within xs k x at, get_or_from_slice_get xs k x x at)

-- a member has an index
pub index_of : {X : Type 0} (xs : List X) (x : X) → Contains xs x → (k : ℕ) × (slice_get xs k ≡ Some x)
index_of xs x member = (member.0, slice_get-get_or xs member.0 x member.1 ∙ ap Some member.2)

-- a member of the first items has an earlier index
pub early_index : {X : Type 0} (xs : List X) (k : ℕ) (x : X) → Contains (take k xs) x → (j : ℕ) × (j < k) × (slice_get xs j ≡ Some x)
early_index xs k x member =
    let early : member.0 < k = omega (arith, member.1, length-take k xs) in
    let within : member.0 < length xs = omega (arith, member.1, length-take k xs) in
    (member.0, early, slice_get-get_or xs member.0 x within ∙ ap Some (sym (get_or-take k xs member.0 x early) ∙ member.2))

-- the item at an earlier index is a member of the first items
pub early_member : {X : Type 0} (xs : List X) (j k : ℕ) (x : X) → slice_get xs j ≡ Some x → j < k → Contains (take k xs) x
early_member xs j k x at early =
    let within : j < length xs = slice_get_within xs j x at in
    (j, omega (arith, length-take k xs), get_or-take k xs j x early ∙ get_or_from_slice_get xs j x x at)

-- an item of a list of distinct items has one index
pub one_index : {X : Type 0} (xs : List X) (j k : ℕ) (x : X) → AllPairs ◌≢◌ xs → slice_get xs j ≡ Some x → slice_get xs k ≡ Some x → j ≡ k
one_index {X} xs j k x once at_j at_k =
    elim (cases_order j k) [
      | inl same ↦ same
      | inr (inl less) ↦ absurd (distinct j k less at_j at_k)
      | inr (inr more) ↦ absurd (distinct k j more at_k at_j)
    ]
  where
    distinct : (i l : ℕ) → i < l → slice_get xs i ≡ Some x → slice_get xs l ≡ Some x → ⊥
    distinct i l less at_i at_l =
        once i l x less (slice_get_within xs l x at_l) (get_or_from_slice_get xs i x x at_i ∙ sym (get_or_from_slice_get xs l x x at_l))

-- in a list of distinct items an item is not among those before it
pub not_before : {X : Type 0} (xs : List X) (y : X) (ys : List X) → AllPairs ◌≢◌ (xs ++ y ∷ ys) → Contains xs y → ⊥
not_before xs y ys once member =
    once member.0 (length xs) y member.1 (omega (arith, length-append xs (y ∷ ys)))
    (get_or_append_left xs (y ∷ ys) y member.0 member.1 ∙ member.2 ∙ sym (get_or_at xs y ys y (length xs) refl))

-- what holds of all items holds of the first ones
pub all_prefix : {X : Type 0} (P : X → Type 0) (xs ys : List X) → All P (xs ++ ys) → All P xs
all_prefix P xs ys all k d within =
    subst P (get_or_append_left xs ys d k within) (all k d (omega (arith, length-append xs ys)))

-- the first of distinct items are distinct
pub distinct_prefix : {X : Type 0} (xs ys : List X) → AllPairs ◌≢◌ (xs ++ ys) → AllPairs ◌≢◌ xs
distinct_prefix xs ys once i j d less within same =
    let before : i < length xs = omega arith in
    once i j d less (omega (arith, length-append xs ys))
    (get_or_append_left xs ys d i before ∙ same ∙ sym (get_or_append_left xs ys d j within))
