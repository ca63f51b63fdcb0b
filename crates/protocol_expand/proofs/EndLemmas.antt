-- Names whose ends differ are not equal.
use Rattle.std.proofs.Common.{◌≡◌, ◌-◌, ℕ, List, Bool, true, false, drop, length, ap, refl}
use Rattle.std.specs.Str.{bytes_eq}
use Rattle.std.proofs.lemmas.Bool.Decides.{not_from_Decides}
use Rattle.std.proofs.lemmas.Slice.Eq.{bytes_eq-Decides}

-- what is not true is false
not_true : (b : Bool) → ¬ (b ≡ true) → b ≡ false
not_true true not = absurd (not refl)
not_true false not = refl

-- equal names have equal ends
pub ends_differ : (a b : List ℕ) → bytes_eq (drop (length a - 32) a) (drop (length b - 32) b) ≡ false → bytes_eq a b ≡ false
ends_differ a b differ =
    not_true (bytes_eq a b) (λ same.
    not_from_Decides _ (bytes_eq-Decides (drop (length a - 32) a) (drop (length b - 32) b)) differ
    (ap (λ name. drop (length name - 32) name) ((bytes_eq-Decides a b).0 same)))
