-- Ranges of numbers, and numbered items, that grow at their end.
use Rattle.std.proofs.Common.{◌≡◌, ℕ, ◌+◌, ◌<◌, ◌≤◌, Bool, true, false, cond, List, [], ◌∷◌, ◌++◌, length, map, get_or, take, refl, sym, ap, ◌∙◌, arith, append-nil, length-take}
use Rattle.std.specs.List.{All, enumerate_from, filter, flat_map, range_with_len}
use Rattle.std.proofs.lemmas.List.{map-append, map-id, take_more}
use Rattle.std.proofs.lemmas.List.Concat.{flat_map-append}
use Rattle.std.proofs.lemmas.List.Elements.{All-cons, All-head, All-nil, All-tail, All-weaker, filter-append}
use Rattle.std.proofs.lemmas.List.FromFn.{get_or-range_with_len, length-range_with_len, map-range_with_len_more}

-- one number more
pub range_next : (a n j : ℕ) → a + n ≡ j → range_with_len a (n + 1) ≡ range_with_len a n ++ j ∷ []
range_next a n j is_next =
    sym (map-id (range_with_len a (n + 1))) ∙ map-range_with_len_more (λ k. k) a n j is_next ∙ ap (λ ks. ks ++ j ∷ []) (map-id (range_with_len a n))

-- what the numbers of a longer range add
pub flat_map_next : {X : Type 0} (f : ℕ → List X) (a n j : ℕ) → a + n ≡ j → flat_map f (range_with_len a (n + 1)) ≡ flat_map f (range_with_len a n) ++ f j
flat_map_next f a n j is_next =
    ap (flat_map f) (range_next a n j is_next) ∙ flat_map-append f (range_with_len a n) (j ∷ []) ∙ ap (λ ys. flat_map f (range_with_len a n) ++ ys) (append-nil (f j))

-- the number is kept if it passes the test
pub filter_next : (p : ℕ → Bool) (a n j : ℕ) → a + n ≡ j → filter p (range_with_len a (n + 1)) ≡ filter p (range_with_len a n) ++ cond (p j) (j ∷ []) []
filter_next p a n j is_next = ap (filter p) (range_next a n j is_next) ∙ filter-append p (range_with_len a n) (j ∷ [])

-- the numbers of a range
pub range_members : (a n : ℕ) → All (λ k. (a ≤ k) × (k < a + n)) (range_with_len a n)
range_members a n k d within =
    let short : k < n = omega (arith, length-range_with_len a n) in
    let is : get_or (range_with_len a n) k d ≡ a + k = get_or-range_with_len a n k d short in
    (omega (arith, is), omega (arith, is))

-- one item more has the next number
pub enumerate_next : {X : Type 0} (a : ℕ) (xs : List X) (x : X) (j : ℕ) → a + length xs ≡ j → enumerate_from a (xs ++ x ∷ []) ≡ enumerate_from a xs ++ (j, x) ∷ []
enumerate_next a [] x j is_next = ap (λ k. (k, x) ∷ []) (let same : a ≡ j = omega arith in same)
enumerate_next a (y ∷ xs) x j is_next = ap (λ rest. (a, y) ∷ rest) (enumerate_next (a + 1) xs x j (omega (arith, is_next)))

-- the same with the first items of a list
pub enumerate_more : {X : Type 0} (a : ℕ) (xs : List X) (n : ℕ) (d : X) → n < length xs → enumerate_from a (take (n + 1) xs) ≡ enumerate_from a (take n xs) ++ (a + n, get_or xs n d) ∷ []
enumerate_more a xs n d within =
    ap (enumerate_from a) (take_more xs n d within) ∙ enumerate_next a (take n xs) (get_or xs n d) (a + n) (omega (arith, length-take n xs))

-- and what it adds
pub flat_map_numbered : {X A : Type 0} (f : ℕ × X → List A) (a : ℕ) (xs : List X) (n : ℕ) (d : X) → n < length xs → flat_map f (enumerate_from a (take (n + 1) xs)) ≡ flat_map f (enumerate_from a (take n xs)) ++ f (a + n, get_or xs n d)
flat_map_numbered {X} f a xs n d within =
    let pair : ℕ × X = (a + n, get_or xs n d) in
    let before = enumerate_from a (take n xs) in
    ap (flat_map f) (enumerate_more a xs n d within) ∙ flat_map-append f before (pair ∷ []) ∙ ap (λ ys. flat_map f before ++ ys) (append-nil (f pair))

-- the numbers of the items that pass the test
abbrev pub numbers_kept : {X : Type 0} → (X → Bool) → ℕ → List X → List ℕ
numbers_kept p a xs = map (λ pair. pair.0) (filter (λ pair. p pair.1) (enumerate_from a xs))

-- that of one item, if it passes
number_if : {X : Type 0} (kept : Bool) (pair : ℕ × X) → map (λ (q : ℕ × X). q.0) (cond kept (pair ∷ []) []) ≡ cond kept (pair.0 ∷ []) []
number_if true pair = refl
number_if false pair = refl

-- what one item more adds
pub numbers_more : {X : Type 0} (p : X → Bool) (a : ℕ) (xs : List X) (n : ℕ) (d : X) → n < length xs → numbers_kept p a (take (n + 1) xs) ≡ numbers_kept p a (take n xs) ++ cond (p (get_or xs n d)) ((a + n) ∷ []) []
numbers_more {X} p a xs n d within =
    let pair : ℕ × X = (a + n, get_or xs n d) in
    let test = λ (q : ℕ × X). p q.1 in
    let number = λ (q : ℕ × X). q.0 in
    let before = enumerate_from a (take n xs) in
    ap (λ qs. map number (filter test qs)) (enumerate_more a xs n d within) ∙ ap (map number) (filter-append test before (pair ∷ [])) ∙
    map-append number (filter test before) (filter test (pair ∷ [])) ∙ ap (λ ys. map number (filter test before) ++ ys) (number_if (test pair) pair)

-- the numbers of items are a range
pub map_numbers : {X A : Type 0} (f : ℕ → A) (a : ℕ) (xs : List X) → map (λ pair. f pair.0) (enumerate_from a xs) ≡ map f (range_with_len a (length xs))
map_numbers f a [] = refl
map_numbers f a (x ∷ xs) = ap (λ ys. f a ∷ ys) (map_numbers f (a + 1) xs)

-- the number is one of a range, and the item has the property
abbrev pub IsNumbered : {X : Type 0} → (X → Type 0) → ℕ → ℕ → ℕ × X → Type 0
IsNumbered P low high pair = (low ≤ pair.0) × (pair.0 < high) × P pair.1

-- so each item of a list that has the property is numbered
pub numbered : {X : Type 0} (P : X → Type 0) (a : ℕ) (xs : List X) → All P xs → All (IsNumbered P a (a + length xs)) (enumerate_from a xs)
numbered P a [] all = All-nil (IsNumbered P a (a + 0))
numbered P a (x ∷ xs) all =
    let later = numbered P (a + 1) xs (All-tail P x xs all) in
    All-cons (IsNumbered P a (a + length (x ∷ xs))) (a, x) (enumerate_from (a + 1) xs) (omega arith, omega arith, All-head P x xs all)
    (All-weaker (IsNumbered P (a + 1) (a + 1 + length xs)) (IsNumbered P a (a + length (x ∷ xs)))
    (λ pair within. let from = within.0 in let to = within.1 in (omega (arith, from), omega (arith, to), within.2)) (enumerate_from (a + 1) xs) later)
