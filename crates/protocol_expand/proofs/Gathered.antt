-- What holds of the items of lists that are gathered from others.
use Rattle.std.proofs.Common.{◌≡◌, ℕ, ◌<◌, Bool, true, false, cond, List, [], ◌∷◌, ◌++◌, length, map, Some, refl, sym, subst, arith}
use Rattle.std.specs.List.{All, Contains, enumerate_from, find, flat_map}
use Rattle.std.proofs.lemmas.List.Elements.{All-append, All-cons, All-contains, All-contains_itself, All-head, All-nil, All-tail, Contains-append_right, Contains-get_or}
use Rattle.std.proofs.lemmas.List.FromFn.{get_or-enumerate_from, length-enumerate_from}
use Rattle.list_base.proofs.Mapped.{all_of_mapped}

-- what holds of each part holds of the items of all
pub all_gathered : {X Y : Type 0} (P : Y → Type 0) (f : X → List Y) (xs : List X) → All (λ x. All P (f x)) xs → All P (flat_map f xs)
all_gathered P f [] each = All-nil P
all_gathered {X} P f (x ∷ xs) each =
    All-append P (f x) (flat_map f xs)
    (All-head (λ (x : X). All P (f x)) x xs each)
    (all_gathered P f xs (All-tail (λ (x : X). All P (f x)) x xs each))

-- what holds of a list holds of its front
pub all_front : {X : Type 0} (P : X → Type 0) (xs ys : List X) → All P (xs ++ ys) → All P xs
all_front P [] ys all = All-nil P
all_front P (x ∷ xs) ys all = All-cons P x xs (All-head P x (xs ++ ys) all) (all_front P xs ys (All-tail P x (xs ++ ys) all))

-- and of its back
pub all_back : {X : Type 0} (P : X → Type 0) (xs ys : List X) → All P (xs ++ ys) → All P ys
all_back P [] ys all = all
all_back P (x ∷ xs) ys all = all_back P xs ys (All-tail P x (xs ++ ys) all)

-- what holds of all items holds of those of each part
pub all_of_gathered : {X Y : Type 0} (P : Y → Type 0) (f : X → List Y) (xs : List X) → All P (flat_map f xs) → All (λ x. All P (f x)) xs
all_of_gathered {X} P f [] all = All-nil (λ (x : X). All P (f x))
all_of_gathered {X} P f (x ∷ xs) all =
    All-cons (λ (x : X). All P (f x)) x xs
    (all_front P (f x) (flat_map f xs) all)
    (all_of_gathered P f xs (all_back P (f x) (flat_map f xs) all))

-- the image of an item is among the images
pub among_mapped : {X Y : Type 0} (f : X → Y) (xs : List X) (x : X) → Contains xs x → Contains (map f xs) (f x)
among_mapped {X} f xs x among = All-contains (λ (x : X). Contains (map f xs) (f x)) xs x (all_of_mapped (Contains (map f xs)) f xs (All-contains_itself (map f xs))) among

-- an item of a part is among all
pub among_gathered : {X Y : Type 0} (f : X → List Y) (xs : List X) (x : X) (y : Y) → Contains xs x → Contains (f x) y → Contains (flat_map f xs) y
among_gathered {X} f xs x y among here =
    All-contains (Contains (flat_map f xs)) (f x) y
    (All-contains (λ (x : X). All (Contains (flat_map f xs)) (f x)) xs x (all_of_gathered (Contains (flat_map f xs)) f xs (All-contains_itself (flat_map f xs))) among)
    here

-- an item that has a number is among the items
pub among_numbered : {X : Type 0} (n k : ℕ) (xs : List X) (x : X) → Contains (enumerate_from n xs) (k, x) → Contains xs x
among_numbered {X} n k xs x among =
    All-contains (λ (i : ℕ × X). Contains xs i.1) (enumerate_from n xs) (k, x)
    (λ j e within.
    let inside : j < length xs = omega (arith, within, length-enumerate_from n xs) in
    subst (λ (i : ℕ × X). Contains xs i.1) (sym (get_or-enumerate_from n xs j e inside)) (Contains-get_or xs j e.1 inside))
    among

-- the first item is among the items
pub among_first : {X : Type 0} (x : X) (xs : List X) → Contains (x ∷ xs) x
among_first x xs = (0, omega arith, refl)

-- what is found is among the items
pub among_found : {X : Type 0} (test : X → Bool) (xs : List X) (x : X) → find test xs ≡ Some x → Contains xs x
among_found test [] x found = absurd cc
among_found {X} test (y ∷ ys) x found = by (test y) found (λ later. among_found test ys x later)
  where
    by : (b : Bool) → cond b (Some y) (find test ys) ≡ Some x → (find test ys ≡ Some x → Contains ys x) → Contains (y ∷ ys) x
    by true same rest = let is : y ≡ x = cc in subst (Contains (y ∷ ys)) is (among_first y ys)
    by false later rest = Contains-append_right (y ∷ []) ys x (rest later)
