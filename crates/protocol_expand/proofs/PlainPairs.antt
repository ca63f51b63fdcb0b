-- What follows from two lists whose items belong together, and from two images of lists.
use Rattle.std.proofs.Common.{◌≡◌, List, [], ◌∷◌, map, refl}
use Rattle.std.specs.List.{All, AllZip}
use Rattle.std.proofs.lemmas.List.Elements.{All-nil, All-cons, All-head, All-tail}

-- what the first of each pair has because of the second
pub firsts : {A B : Type 0} (Q : A → Type 0) (R : A → B → Type 0) (P : A → Type 0) → ((x : A) (y : B) → Q x → R x y → P x) → (xs : List A) (ys : List B) → All Q xs → AllZip R xs ys → All P xs
firsts Q R P one [] ys each all = All-nil P
firsts Q R P one (x ∷ xs) [] each all = absurd all
firsts Q R P one (x ∷ xs) (y ∷ ys) each all = All-cons P x xs (one x y (All-head Q x xs each) all.0) (firsts Q R P one xs ys (All-tail Q x xs each) all.1)

-- the pairs of a mapped list are pairs of the list
pub unmapped : {A B : Type 0} (R S : A → B → Type 0) (f : A → A) → ((x : A) (y : B) → R (f x) y → S x y) → (xs : List A) (ys : List B) → AllZip R (map f xs) ys → AllZip S xs ys
unmapped R S f one [] [] all = tt
unmapped R S f one [] (y ∷ ys) all = absurd all
unmapped R S f one (x ∷ xs) [] all = absurd all
unmapped R S f one (x ∷ xs) (y ∷ ys) all = (one x y all.0, unmapped R S f one xs ys all.1)

-- where one image of items tells the other, so it is with lists
pub same_images : {A B C : Type 0} (P : A → Type 0) (f : A → B) (g : A → C) → ((x y : A) → P x → P y → f x ≡ f y → g x ≡ g y) → (xs ys : List A) → All P xs → All P ys → map f xs ≡ map f ys → map g xs ≡ map g ys
same_images P f g one [] [] each each' same = refl
same_images P f g one [] (y ∷ ys) each each' same = absurd cc
same_images P f g one (x ∷ xs) [] each each' same = absurd cc
same_images P f g one (x ∷ xs) (y ∷ ys) each each' same =
    let head : f x ≡ f y = cc in
    let tail : map f xs ≡ map f ys = cc in
    λ i. one x y (All-head P x xs each) (All-head P y ys each') head i ∷ same_images P f g one xs ys (All-tail P x xs each) (All-tail P y ys each') tail i

-- where partners of one item have one image, so have lists of partners
pub same_partners : {A B C : Type 0} (P : A → Type 0) (R : A → B → Type 0) (g : A → C) → ((x y : A) (z : B) → P x → P y → R x z → R y z → g x ≡ g y) → (xs ys : List A) (zs : List B) → All P xs → All P ys → AllZip R xs zs → AllZip R ys zs → map g xs ≡ map g ys
same_partners P R g one [] [] zs each each' all all' = refl
same_partners P R g one [] (y ∷ ys) [] each each' all all' = absurd all'
same_partners P R g one [] (y ∷ ys) (z ∷ zs) each each' all all' = absurd all
same_partners P R g one (x ∷ xs) [] [] each each' all all' = absurd all
same_partners P R g one (x ∷ xs) [] (z ∷ zs) each each' all all' = absurd all'
same_partners P R g one (x ∷ xs) (y ∷ ys) [] each each' all all' = absurd all
same_partners P R g one (x ∷ xs) (y ∷ ys) (z ∷ zs) each each' all all' =
    λ i. one x y z (All-head P x xs each) (All-head P y ys each') all.0 all'.0 i ∷ same_partners P R g one xs ys zs (All-tail P x xs each) (All-tail P y ys each') all.1 all'.1 i
