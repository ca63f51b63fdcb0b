-- Membership in a list by its first item.
use Rattle.std.proofs.Common.{◌≡◌, ◌⊎◌, inl, inr, zero, suc, List, [], ◌∷◌, ◌++◌, Contains, refl, arith}
use Rattle.std.proofs.lemmas.List.Elements.{Contains-append_right, Contains-append_cases}

-- the first item is a member
pub here : {X : Type 0} (x : X) (xs : List X) → Contains (x ∷ xs) x
here x xs = (0, omega arith, refl)

-- so is what equals it
pub here_same : {X : Type 0} (x : X) (xs : List X) (y : X) → x ≡ y → Contains (x ∷ xs) y
here_same x xs y same = (0, omega arith, same)

-- a member of the rest is a member
pub there : {X : Type 0} (x : X) (xs : List X) (y : X) → Contains xs y → Contains (x ∷ xs) y
there x xs y among = Contains-append_right (x ∷ []) xs y among

-- an empty list has no member
pub nowhere : {X : Type 0} (x : X) → Contains [] x → ⊥
nowhere x among = absurd (omega (arith, among.1))

-- a list of one item has it alone
pub only : {X : Type 0} (x y : X) → Contains (x ∷ []) y → x ≡ y
only x y (zero, within, is) = is
only x y (suc k, within, is) = absurd (omega (arith, within))

-- the first item, or one of the rest
pub cons_cases : {X : Type 0} (x : X) (xs : List X) (y : X) → Contains (x ∷ xs) y → (x ≡ y) ⊎ Contains xs y
cons_cases x xs y among =
    elim (Contains-append_cases (x ∷ []) xs y among) [ inl one ↦ inl (only x y one) | inr rest ↦ inr rest ]

-- what equals the last item is a member
pub end_same : {X : Type 0} (xs : List X) (x y : X) → x ≡ y → Contains (xs ++ x ∷ []) y
end_same xs x y same = Contains-append_right xs (x ∷ []) y (here_same x [] y same)
