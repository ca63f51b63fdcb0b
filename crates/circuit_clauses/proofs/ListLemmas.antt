-- Some item of a list, and all items of two lists.
use Rattle.std.proofs.Common.{◌⊎◌, List, [], ◌∷◌, ◌++◌, inl, inr, sym, subst, ⊎_elim, Contains}
use Rattle.std.specs.List.{All, Any}
use Rattle.std.proofs.lemmas.List.Elements.{All-tail}
use Rattle.list_base.proofs.Members.{cons_cases, here, nowhere, there}

-- a member that has it is one of some
some_of : {X : Type 0} (P : X → Type 0) (xs : List X) (x : X) → Contains xs x → P x → Any P xs
some_of P xs x (k, within, is) holds = (k, x, within, is, holds)

-- the first item has it
pub any_first : {X : Type 0} (P : X → Type 0) (x : X) (xs : List X) → P x → Any P (x ∷ xs)
any_first P x xs = some_of P (x ∷ xs) x (here x xs)

-- a later one has it
pub any_later : {X : Type 0} (P : X → Type 0) (x : X) (xs : List X) → Any P xs → Any P (x ∷ xs)
any_later P x xs (k, y, within, is, holds) = some_of P (x ∷ xs) y (there x xs y (k, within, is)) holds

-- the first item has it, or a later one
pub any_cases : {X : Type 0} (P : X → Type 0) (x : X) (xs : List X) → Any P (x ∷ xs) → P x ⊎ Any P xs
any_cases {X} P x xs (k, y, within, is, holds) =
    ⊎_elim
    (λ same. inl (subst (λ (z : X). P z) (sym same) holds))
    (λ later. inr (some_of P xs y later holds))
    (cons_cases x xs y (k, within, is))

-- of no items, none has it
pub any_none : {X : Type 0} (P : X → Type 0) → Any P [] → ⊥
any_none P (k, y, within, is, holds) = nowhere y (k, within, is)

-- of one item, it has it
pub any_only : {X : Type 0} (P : X → Type 0) (x : X) → Any P (x ∷ []) → P x
any_only P x some = ⊎_elim (λ holds. holds) (λ later. absurd (any_none P later)) (any_cases P x [] some)

-- an item of the first list has it
pub any_left : {X : Type 0} (P : X → Type 0) (xs ys : List X) → Any P xs → Any P (xs ++ ys)
any_left P [] ys some = absurd (any_none P some)
any_left P (x ∷ xs) ys some =
    ⊎_elim
    (any_first P x (xs ++ ys))
    (λ later. any_later P x (xs ++ ys) (any_left P xs ys later))
    (any_cases P x xs some)

-- an item of the second list has it
pub any_right : {X : Type 0} (P : X → Type 0) (xs ys : List X) → Any P ys → Any P (xs ++ ys)
any_right P [] ys some = some
any_right P (x ∷ xs) ys some = any_later P x (xs ++ ys) (any_right P xs ys some)

-- an item of one of the lists has it
pub any_split : {X : Type 0} (P : X → Type 0) (xs ys : List X) → Any P (xs ++ ys) → Any P xs ⊎ Any P ys
any_split P [] ys some = inr some
any_split P (x ∷ xs) ys some =
    ⊎_elim
    (λ holds. inl (any_first P x xs holds))
    (λ later. ⊎_elim (λ left. inl (any_later P x xs left)) inr (any_split P xs ys later))
    (any_cases P x (xs ++ ys) some)

-- what holds of all items of two lists holds of those of the second
pub all_second : {X : Type 0} (P : X → Type 0) (xs ys : List X) → All P (xs ++ ys) → All P ys
all_second P [] ys all = all
all_second P (x ∷ xs) ys all = all_second P xs ys (All-tail P x (xs ++ ys) all)
