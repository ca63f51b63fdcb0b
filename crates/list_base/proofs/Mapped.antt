-- What holds of the items of a list, and of their names.
use Rattle.std.proofs.Common.{◌≡◌, suc, ◌<◌, List, [], ◌∷◌, length, map, get_or, refl, sym, subst, ap, arith}
use Rattle.std.specs.List.{All, AllPairs, AllZip}
use Rattle.std.proofs.lemmas.List.{get_or-map, length-map}
use Rattle.std.proofs.lemmas.List.Elements.{All-nil, All-cons, All-head, All-tail}

-- what each name has, each item's name has
pub all_of_mapped : {X A : Type 0} (P : A → Type 0) (f : X → A) (xs : List X) → All P (map f xs) → All (λ x. P (f x)) xs
all_of_mapped {X} {A} P f xs all k d within = subst (λ (a : A). P a) (get_or-map f xs k d (f d) within) (all k (f d) (omega (arith, length-map xs f, within)))

-- distinct names are those of distinct items
pub pairs_of_mapped : {X A : Type 0} (R : A → A → Type 0) (f : X → A) (xs : List X) → AllPairs R (map f xs) → AllPairs (λ x y. R (f x) (f y)) xs
pairs_of_mapped {X} {A} R f xs pairs i j d before within =
    let first : i < length xs = omega (arith, before, within) in
    subst (λ (a : A). R (f (get_or xs i d)) a) (get_or-map f xs j d (f d) within)
    (subst (λ (a : A). R a (get_or (map f xs) j (f d))) (get_or-map f xs i d (f d) first)
    (pairs i j (f d) before (omega (arith, length-map xs f, within))))

-- and the other way
pub mapped_pairs : {X A : Type 0} (R : A → A → Type 0) (f : X → A) (xs : List X) → AllPairs (λ x y. R (f x) (f y)) xs → AllPairs R (map f xs)
mapped_pairs R f [] pairs i j e before within = absurd (omega (arith, before, within))
mapped_pairs {X} {A} R f (x ∷ xs) pairs i j e before within =
    let last : j < length (x ∷ xs) = omega (arith, length-map (x ∷ xs) f, within) in
    let first : i < length (x ∷ xs) = omega (arith, before, last) in
    subst (λ (a : A). R (get_or (map f (x ∷ xs)) i e) a) (sym (get_or-map f (x ∷ xs) j x e last))
    (subst (λ (a : A). R a (f (get_or (x ∷ xs) j x))) (sym (get_or-map f (x ∷ xs) i x e first))
    (pairs i j x before last))

-- where each item has a partner, the list has a list of partners
pub partners : {A B : Type 0} (R : A → B → Type 0) (P : B → Type 0) (xs : List A) → All (λ x. (y : B) × R x y × P y) xs → (ys : List B) × AllZip R xs ys × All P ys
partners R P [] each = ([], tt, All-nil P)
partners {A} {B} R P (x ∷ xs) each =
    let one = All-head (λ (x : A). (y : B) × R x y × P y) x xs each in
    let rest = partners R P xs (All-tail (λ (x : A). (y : B) × R x y × P y) x xs each) in
    (one.0 ∷ rest.0, (one.1, rest.1), All-cons P one.0 rest.0 one.2 rest.2)

-- lists of partners are as long
pub as_long : {A B : Type 0} (R : A → B → Type 0) (xs : List A) (ys : List B) → AllZip R xs ys → length ys ≡ length xs
as_long R [] [] all = refl
as_long R [] (y ∷ ys) all = absurd all
as_long R (x ∷ xs) [] all = absurd all
as_long R (x ∷ xs) (y ∷ ys) all = ap suc (as_long R xs ys all.1)
