-- Lists that are made of a piece for each number of a range.
use Rattle.std.proofs.Common.{◌≡◌, ℕ, ◌+◌, ◌-◌, ◌*◌, ◌<◌, ◌≤◌, List, [], ◌∷◌, length, get_or, take, sym, ap, ◌∙◌, subst, arith, length-append}
use Rattle.std.specs.List.{flat_map, range_with_len}
use Rattle.std.proofs.lemmas.List.{map-id}
use Rattle.std.proofs.lemmas.List.Concat.{get_or-flat_map}
use Rattle.std.proofs.lemmas.List.FromFn.{get_or-range_with_len, length-range_with_len, take-map-range_with_len}

-- the first numbers of a range are a range
take_range : (a n k : ℕ) → k ≤ n → take k (range_with_len a n) ≡ range_with_len a k
take_range a n k within =
    ap (take k) (sym (map-id (range_with_len a n))) ∙ take-map-range_with_len (λ i. i) a n k within ∙ map-id (range_with_len a k)

-- an item of a piece comes after the pieces before it
piece_item : {A : Type 0} (f : ℕ → List A) (a n k d : ℕ) (e : A) → k < n → d < length (f (a + k)) → get_or (flat_map f (range_with_len a n)) (length (flat_map f (range_with_len a k)) + d) e ≡ get_or (f (a + k)) d e
piece_item {A} f a n k d e within inside =
    let range = range_with_len a n in
    let at : get_or range k 0 ≡ a + k = get_or-range_with_len a n k 0 within in
    let there : d < length (f (get_or range k 0)) = subst (λ (m : ℕ). d < length (f m)) (sym at) inside in
    let known : k < length range = omega (arith, length-range_with_len a n, within) in
    ap (λ (before : List ℕ). get_or (flat_map f range) (length (flat_map f before) + d) e) (sym (take_range a n k (omega (arith, within)))) ∙
    get_or-flat_map f range k d 0 e known there ∙ ap (λ (m : ℕ). get_or (f m) d e) at

-- the same, by the number of the piece and the index of the item
pub piece_at : {A : Type 0} (f : ℕ → List A) (a n i d m : ℕ) (e : A) → a ≤ i → i < a + n → d < length (f i) → m ≡ length (flat_map f (range_with_len a (i - a))) + d → get_or (flat_map f (range_with_len a n)) m e ≡ get_or (f i) d e
piece_at {A} f a n i d m e from within inside is =
    let back : a + (i - a) ≡ i = omega (arith, from) in
    let short : i - a < n = omega (arith, from, within) in
    ap (λ (k : ℕ). get_or (flat_map f (range_with_len a n)) k e) is ∙
    piece_item f a n (i - a) d e short (subst (λ (k : ℕ). d < length (f k)) (sym back) inside) ∙
    ap (λ (k : ℕ). get_or (f k) d e) back

-- pieces of two items each
pub length_of_twos : {A : Type 0} (f : ℕ → List A) (xs : List ℕ) → ((x : ℕ) → length (f x) ≡ 2) → length (flat_map f xs) ≡ 2 * length xs
length_of_twos f [] each = omega arith
length_of_twos f (x ∷ xs) each = omega (arith, length-append (f x) (flat_map f xs), each x, length_of_twos f xs each)
