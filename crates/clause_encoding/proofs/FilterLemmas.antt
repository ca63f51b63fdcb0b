-- Lists that were filtered or joined: what tests and functions give of them, and what holds of them.
use Rattle.std.proofs.Common.{◌≡◌, Bool, true, false, cond, List, [], ◌∷◌, ◌++◌, map, refl, ap, ◌∙◌}
use Rattle.std.specs.Prelude.{◌&&◌, ◌||◌}
use Rattle.std.proofs.lemmas.List.Elements.{All-append, All-cons, All-head, All-nil, All-tail}
use Rattle.std.specs.List.{All, filter, flat_map, list_any}

-- the first item counts if it passes both tests
first_passes : {X : Type 0} (p q : X → Bool) (x : X) (xs : List X) (kept : Bool) → (list_any q (filter p xs) ≡ list_any (λ y. p y && q y) xs) → list_any q (cond kept (x ∷ filter p xs) (filter p xs)) ≡ ((kept && q x) || list_any (λ y. p y && q y) xs)
first_passes p q x xs true rest = ap (λ b. q x || b) rest
first_passes p q x xs false rest = rest

-- some item that passes one test passes the other exactly if some item passes both
pub any_filtered : {X : Type 0} (p q : X → Bool) (xs : List X) → list_any q (filter p xs) ≡ list_any (λ x. p x && q x) xs
any_filtered p q [] = refl
any_filtered p q (x ∷ xs) = first_passes p q x xs (p x) (any_filtered p q xs)

-- the first item adds to the rest if it is kept
first_adds : {X A : Type 0} (p : X → Bool) (f : X → List A) (x : X) (xs : List X) (kept : Bool) → flat_map f (cond kept (x ∷ filter p xs) (filter p xs)) ≡ cond kept (f x) [] ++ flat_map f (filter p xs)
first_adds p f x xs true = refl
first_adds p f x xs false = refl

-- each item adds to a list if it passes the test
pub flat_map_filtered : {X A : Type 0} (p : X → Bool) (f : X → List A) (xs : List X) → flat_map f (filter p xs) ≡ flat_map (λ x. cond (p x) (f x) []) xs
flat_map_filtered p f [] = refl
flat_map_filtered p f (x ∷ xs) = first_adds p f x xs (p x) ∙ ap (λ ys. cond (p x) (f x) [] ++ ys) (flat_map_filtered p f xs)

-- the first item adds its image if it is kept
first_image : {X A : Type 0} (p : X → Bool) (f : X → A) (x : X) (xs : List X) (kept : Bool) → map f (cond kept (x ∷ filter p xs) (filter p xs)) ≡ cond kept (f x ∷ []) [] ++ map f (filter p xs)
first_image p f x xs true = refl
first_image p f x xs false = refl

-- each item adds its image if it passes the test
pub map_filtered : {X A : Type 0} (p : X → Bool) (f : X → A) (xs : List X) → map f (filter p xs) ≡ flat_map (λ x. cond (p x) (f x ∷ []) []) xs
map_filtered p f [] = refl
map_filtered p f (x ∷ xs) = first_image p f x xs (p x) ∙ ap (λ ys. cond (p x) (f x ∷ []) [] ++ ys) (map_filtered p f xs)

-- what holds of all that each item adds holds of all
pub all_flat_map : {X A : Type 0} (P : A → Type 0) (f : X → List A) (xs : List X) → All (λ x. All P (f x)) xs → All P (flat_map f xs)
all_flat_map P f [] each = All-nil P
all_flat_map {X} P f (x ∷ xs) each =
    let Each = λ (y : X). All P (f y) in
    All-append P (f x) (flat_map f xs) (All-head Each x xs each) (all_flat_map P f xs (All-tail Each x xs each))

-- what holds of an item holds of the list that has it alone
pub all_one : {X : Type 0} (P : X → Type 0) (x : X) → P x → All P (x ∷ [])
all_one P x holds = All-cons P x [] holds (All-nil P)
