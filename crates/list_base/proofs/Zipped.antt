-- What follows from two lists whose items belong together.
use Rattle.std.proofs.Common.{◌≡◌, ℕ, zero, suc, ◌+◌, ◌<◌, List, [], ◌∷◌, ◌++◌, length, get_or, map, take, refl, sym, ap, subst, ◌∙◌, arith}
use Rattle.std.specs.List.{All, AllZip}
use Rattle.std.proofs.lemmas.List.{take_more}
use Rattle.std.proofs.lemmas.List.Elements.{All-nil, All-cons, All-head, All-tail}

-- the lists in the other order
pub flipped : {A B : Type 0} (R : A → B → Type 0) (Q : B → A → Type 0) → ((x : A) (y : B) → R x y → Q y x) → (xs : List A) (ys : List B) → AllZip R xs ys → AllZip Q ys xs
flipped R Q turn [] [] all = tt
flipped R Q turn [] (y ∷ ys) all = absurd all
flipped R Q turn (x ∷ xs) [] all = absurd all
flipped R Q turn (x ∷ xs) (y ∷ ys) all = (turn x y all.0, flipped R Q turn xs ys all.1)

-- what the second of each pair has because of the first
pub seconds : {A B : Type 0} (Q : A → Type 0) (R : A → B → Type 0) (P : B → Type 0) → ((x : A) (y : B) → Q x → R x y → P y) → (xs : List A) (ys : List B) → All Q xs → AllZip R xs ys → All P ys
seconds Q R P one [] [] each all = All-nil P
seconds Q R P one [] (y ∷ ys) each all = absurd all
seconds Q R P one (x ∷ xs) [] each all = absurd all
seconds Q R P one (x ∷ xs) (y ∷ ys) each all = All-cons P y ys (one x y (All-head Q x xs each) all.0) (seconds Q R P one xs ys (All-tail Q x xs each) all.1)

-- where each first is a function of its second, so is the list
pub mapped_back : {A B : Type 0} (R : A → B → Type 0) (f : B → A) → ((x : A) (y : B) → R x y → f y ≡ x) → (xs : List A) (ys : List B) → AllZip R xs ys → map f ys ≡ xs
mapped_back R f back [] [] all = refl
mapped_back R f back [] (y ∷ ys) all = absurd all
mapped_back R f back (x ∷ xs) [] all = absurd all
mapped_back R f back (x ∷ xs) (y ∷ ys) all = λ i. back x y all.0 i ∷ mapped_back R f back xs ys all.1 i

-- where a function leaves each second as it is, it leaves the list
pub mapped_same : {A B : Type 0} (R : A → B → Type 0) (f : B → B) → ((x : A) (y : B) → R x y → f y ≡ y) → (xs : List A) (ys : List B) → AllZip R xs ys → map f ys ≡ ys
mapped_same R f same [] [] all = refl
mapped_same R f same [] (y ∷ ys) all = absurd all
mapped_same R f same (x ∷ xs) [] all = absurd all
mapped_same R f same (x ∷ xs) (y ∷ ys) all = λ i. same x y all.0 i ∷ mapped_same R f same xs ys all.1 i

-- where each has one partner at most, so does a list
pub one_list : {A B : Type 0} (R : A → B → Type 0) → ((a : A) (b c : B) → R a b → R a c → b ≡ c) → (xs : List A) (ys zs : List B) → AllZip R xs ys → AllZip R xs zs → ys ≡ zs
one_list R one [] [] [] all other = refl
one_list R one [] [] (z ∷ zs) all other = absurd other
one_list R one [] (y ∷ ys) zs all other = absurd all
one_list R one (x ∷ xs) [] zs all other = absurd all
one_list R one (x ∷ xs) (y ∷ ys) [] all other = absurd other
one_list R one (x ∷ xs) (y ∷ ys) (z ∷ zs) all other = λ i. one x y z all.0 other.0 i ∷ one_list R one xs ys zs all.1 other.1 i

-- pairs of one sort are pairs of another
zip_to : {A B : Type 0} (R S : A → B → Type 0) → ((x : A) (y : B) → R x y → S x y) → (xs : List A) (ys : List B) → AllZip R xs ys → AllZip S xs ys
zip_to R S to [] [] all = tt
zip_to R S to [] (y ∷ ys) all = absurd all
zip_to R S to (x ∷ xs) [] all = absurd all
zip_to R S to (x ∷ xs) (y ∷ ys) all = (to x y all.0, zip_to R S to xs ys all.1)

-- one pairing after another
pub zip_append : {A B : Type 0} (R : A → B → Type 0) (xs : List A) (ys : List B) (xs' : List A) (ys' : List B) → AllZip R xs ys → AllZip R xs' ys' → AllZip R (xs ++ xs') (ys ++ ys')
zip_append R [] [] xs' ys' one other = other
zip_append R [] (y ∷ ys) xs' ys' one other = absurd one
zip_append R (x ∷ xs) [] xs' ys' one other = absurd one
zip_append R (x ∷ xs) (y ∷ ys) xs' ys' one other = (one.0, zip_append R xs ys xs' ys' one.1 other)

-- what is paired with a list made from another
pub zip_map : {A B C : Type 0} (R : A → B → Type 0) (S : C → B → Type 0) (f : A → C) → ((x : A) (y : B) → R x y → S (f x) y) → (xs : List A) (ys : List B) → AllZip R xs ys → AllZip S (map f xs) ys
zip_map R S f to [] [] all = tt
zip_map R S f to [] (y ∷ ys) all = absurd all
zip_map R S f to (x ∷ xs) [] all = absurd all
zip_map R S f to (x ∷ xs) (y ∷ ys) all = (to x y all.0, zip_map R S f to xs ys all.1)

-- the item at an index is paired with one
paired : {A B : Type 0} (R : A → B → Type 0) (xs : List A) (ys : List B) (i : ℕ) (d : A) → i < length xs → AllZip R xs ys → (y : B) × R (get_or xs i d) y
paired R [] [] i d within all = absurd (omega (arith, within))
paired R [] (y ∷ ys) i d within all = absurd all
paired R (x ∷ xs) [] i d within all = absurd all
paired R (x ∷ xs) (y ∷ ys) zero d within all = (y, all.0)
paired R (x ∷ xs) (y ∷ ys) (suc i) d within all = paired R xs ys i d (omega (arith, within)) all.1

-- so where it can be paired with none, the lists are not paired
pub none_at : {A B : Type 0} (R : A → B → Type 0) (xs : List A) (ys : List B) (i : ℕ) (x : A) → i < length xs → x ≡ get_or xs i x → AllZip R xs ys → ((y : B) → R x y → ⊥) → ⊥
none_at {A} {B} R xs ys i x within is_item all none = let found = paired R xs ys i x within all in none found.0 (subst (λ (a : A). R a found.0) (sym is_item) found.1)

-- one pair more in a loop over the first list
pub paired_more : {A B : Type 0} (R : A → B → Type 0) (xs : List A) (ys ys' : List B) (i : ℕ) (x : A) (y : B) → i < length xs → x ≡ get_or xs i x → AllZip R (take i xs) ys → R x y → ys' ≡ ys ++ y ∷ [] → AllZip R (take (i + 1) xs) ys'
paired_more {A} {B} R xs ys ys' i x y within is_item all one is =
    subst (λ (front : List A). AllZip R front ys') (sym (take_more xs i x within ∙ ap (λ (a : A). take i xs ++ a ∷ []) (sym is_item)))
    (subst (λ (back : List B). AllZip R (take i xs ++ x ∷ []) back) (sym is) (zip_append R (take i xs) ys (x ∷ []) (y ∷ []) all (one, tt)))

-- the same with the longer list written out
pub paired_push : {A B : Type 0} (R : A → B → Type 0) (xs : List A) (ys : List B) (i : ℕ) (x : A) (y : B) → i < length xs → x ≡ get_or xs i x → AllZip R (take i xs) ys → R x y → AllZip R (take (i + 1) xs) (ys ++ y ∷ [])
paired_push R xs ys i x y within is_item all one = paired_more R xs ys (ys ++ y ∷ []) i x y within is_item all one refl
