-- A loop over the items of a body, with their positions.
use Rattle.std.proofs.Common.{◌≡◌, ℕ, ◌+◌, ◌<◌, ◌≤◌, List, [], ◌∷◌, ◌++◌, length, get_or, take, sym, ap, ◌∙◌, arith}
use Rattle.std.specs.List.{enumerate_from, flat_map}
use Rattle.std.proofs.lemmas.List.{append-nil, take_all, take_more}
use Rattle.std.proofs.lemmas.List.Concat.{flat_map-append}
use Rattle.std.proofs.lemmas.List.FromFn.{get_or-enumerate_from, length-enumerate_from}

-- one item more
numbered_more : {X : Type 0} (xs : List X) (i : ℕ) (x : X) → i < length xs → x ≡ get_or xs i x → take (i + 1) (enumerate_from 1 xs) ≡ take i (enumerate_from 1 xs) ++ (i + 1, x) ∷ []
numbered_more {X} xs i x within is_item =
    let inside : i < length (enumerate_from 1 xs) = omega (arith, within, length-enumerate_from 1 xs) in
    let counted : 1 + i ≡ i + 1 = omega arith in
    take_more (enumerate_from 1 xs) i (i + 1, x) inside
    ∙ ap (λ (pair : ℕ × X). take i (enumerate_from 1 xs) ++ pair ∷ []) (get_or-enumerate_from 1 xs i (i + 1, x) within ∙ ap {B = ℕ × X} (λ n. (n, get_or xs i x)) counted ∙ ap {B = ℕ × X} (λ y. (i + 1, y)) (sym is_item))

-- what comes of the items so far, and of one more
pub made_more : {X Y : Type 0} (f : ℕ × X → List Y) (xs : List X) (i : ℕ) (x : X) → i < length xs → x ≡ get_or xs i x → flat_map f (take (i + 1) (enumerate_from 1 xs)) ≡ flat_map f (take i (enumerate_from 1 xs)) ++ f (i + 1, x)
made_more {X} {Y} f xs i x within is_item =
    ap (flat_map f) (numbered_more xs i x within is_item)
    ∙ flat_map-append f (take i (enumerate_from 1 xs)) ((i + 1, x) ∷ [])
    ∙ ap (λ (more : List Y). flat_map f (take i (enumerate_from 1 xs)) ++ more) (append-nil (f (i + 1, x)))

-- what comes of them all
pub made_all : {X Y : Type 0} (f : ℕ × X → List Y) (xs : List X) (i : ℕ) → length xs ≤ i → flat_map f (take i (enumerate_from 1 xs)) ≡ flat_map f (enumerate_from 1 xs)
made_all f xs i past = ap (flat_map f) (take_all i (enumerate_from 1 xs) (omega (arith, past, length-enumerate_from 1 xs)))
