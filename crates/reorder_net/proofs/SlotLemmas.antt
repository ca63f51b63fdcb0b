-- What passes a test, as one item of a list changes.
use Rattle.std.proofs.Common.{◌≡◌, ℕ, zero, suc, ◌<◌, Bool, true, false, List, [], ◌∷◌, length, get_or, take, slice_set, remove, inl, inr, refl, ap, arith}
use Rattle.std.specs.List.{filter}
use Rattle.std.proofs.lemmas.Bool.{cases_Bool}

-- the item that passes comes after those that pass before it
pub passes_at : {X : Type 0} (p : X → Bool) (xs : List X) (s : ℕ) (d : X) → s < length xs → p (get_or xs s d) ≡ true → get_or (filter p xs) (length (filter p (take s xs))) d ≡ get_or xs s d
passes_at p [] s d within passes = absurd (omega (arith, within))
passes_at p (x ∷ xs) zero d within passes = rw passes refl
passes_at p (x ∷ xs) (suc s) d within passes =
    let later = passes_at p xs s d (omega (arith, within)) passes in
    elim (cases_Bool (p x)) [
      | inl is_yes ↦ rw is_yes later
      | inr is_no ↦ rw is_no later
    ]

-- an item that passes is replaced by one that does
pub passes_still : {X : Type 0} (p : X → Bool) (xs : List X) (s : ℕ) (d y : X) → s < length xs → p (get_or xs s d) ≡ true → p y ≡ true → filter p (slice_set xs s y) ≡ slice_set (filter p xs) (length (filter p (take s xs))) y
passes_still p [] s d y within passes also = absurd (omega (arith, within))
passes_still p (x ∷ xs) zero d y within passes also = rw (passes, also) refl
passes_still p (x ∷ xs) (suc s) d y within passes also =
    let later = passes_still p xs s d y (omega (arith, within)) passes also in
    elim (cases_Bool (p x)) [
      | inl is_yes ↦ rw is_yes (ap (λ l. x ∷ l) later)
      | inr is_no ↦ rw is_no later
    ]

-- or by one that does not
pub passes_no_more : {X : Type 0} (p : X → Bool) (xs : List X) (s : ℕ) (d y : X) → s < length xs → p (get_or xs s d) ≡ true → p y ≡ false → filter p (slice_set xs s y) ≡ remove (filter p xs) (length (filter p (take s xs)))
passes_no_more p [] s d y within passes not = absurd (omega (arith, within))
passes_no_more p (x ∷ xs) zero d y within passes not = rw (passes, not) refl
passes_no_more p (x ∷ xs) (suc s) d y within passes not =
    let later = passes_no_more p xs s d y (omega (arith, within)) passes not in
    elim (cases_Bool (p x)) [
      | inl is_yes ↦ rw is_yes (ap (λ l. x ∷ l) later)
      | inr is_no ↦ rw is_no later
    ]
