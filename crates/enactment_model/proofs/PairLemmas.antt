-- A relation between an item and those after it, and between all pairs.
use Rattle.std.proofs.Common.{◌≡◌, ℕ, ◌+◌, ◌-◌, ◌<◌, ◌≤◌, List, length, get_or, drop, ⊎_elim, sym, ap, ◌∙◌, subst, arith, length-drop, get_or-drop}
use Rattle.std.specs.List.{AllPairs, Any}
use Rattle.std.proofs.lemmas.Bool.{cases_lt}
use Rattle.std.proofs.lemmas.List.{get_or_default, get_or_read}

-- an item that is related to none of those after it
pub related_to_none : {X : Type 0} (R : X → X → Type 0) (xs : List X) (i : ℕ) (x : X) → i < length xs → x ≡ get_or xs i x → ¬ Any (R x) (drop (i + 1) xs) → (k : ℕ) (d : X) → i < k → k < length xs → ¬ R (get_or xs i d) (get_or xs k d)
related_to_none R xs i x within at none k d after known related =
    let item : get_or (drop (i + 1) xs) (k - (i + 1)) (get_or xs k d) ≡ get_or xs k d = get_or-drop (i + 1) xs (k - (i + 1)) (get_or xs k d) ∙ ap (λ n. get_or xs n (get_or xs k d)) (omega arith) ∙ get_or_default xs k (get_or xs k d) d known in
    none (k - (i + 1), get_or xs k d, omega (arith, length-drop (i + 1) xs), item, subst (λ y. R y (get_or xs k d)) (sym (get_or_read xs i x within at d)) related)

-- an item that is related to one of those after it
pub related_to_one : {X : Type 0} (R : X → X → Type 0) (xs : List X) (i : ℕ) (x : X) → i < length xs → x ≡ get_or xs i x → Any (R x) (drop (i + 1) xs) → ¬ AllPairs (λ y z. ¬ R y z) xs
related_to_one R xs i x within at (k, y, later, is, related) apart =
    apart i (i + 1 + k) y (omega arith) (omega (arith, length-drop (i + 1) xs))
    (subst (λ z. R z (get_or xs (i + 1 + k) y)) (get_or_read xs i x within at y) (subst (R x) (sym is ∙ get_or-drop (i + 1) xs k y) related))

-- one more item that is related to none after it
pub none_more : {X : Type 0} (R : X → X → Type 0) (xs : List X) (i : ℕ) (x : X) → i < length xs → x ≡ get_or xs i x → ((j k : ℕ) (d : X) → j < i → j < k → k < length xs → ¬ R (get_or xs j d) (get_or xs k d)) → ¬ Any (R x) (drop (i + 1) xs) → (j k : ℕ) (d : X) → j < i + 1 → j < k → k < length xs → ¬ R (get_or xs j d) (get_or xs k d)
none_more R xs i x within at before none j k d up_to after known =
    ⊎_elim
    (λ (earlier : j < i). before j k d earlier after known)
    (λ (from : i ≤ j). let same : i ≡ j = omega arith in subst (λ n. n < k → ¬ R (get_or xs n d) (get_or xs k d)) same (λ later. related_to_none R xs i x within at none k d later known) after)
    (cases_lt j i)
