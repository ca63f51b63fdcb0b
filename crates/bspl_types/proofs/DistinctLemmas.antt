-- A loop that looks for two like items, each new one against those before it.
use Rattle.std.proofs.Common.{◌≡◌, ℕ, ◌+◌, ◌<◌, List, length, take, get_or, arith, subst, sym, ◌∙◌, length-take}
use Rattle.std.specs.List.{Any, AllPairs}
use Rattle.std.proofs.lemmas.List.{take_more, get_or-take, get_or_default}
use Rattle.std.proofs.lemmas.List.Quantifiers.{all_pairs_push}

-- an item that is like one before it
pub like_before : {X : Type 0} (Like : X → X → Type 0) (xs : List X) (i : ℕ) (y d : X) → i < length xs → get_or xs i d ≡ y → Any (λ x. Like x y) (take i xs) → AllPairs (λ x z. ¬ Like x z) xs → ⊥
like_before {X} Like xs i y d within stands (k, x, is_before, is_there, is_like) distinct =
    let before : k < i = omega (arith, simp length-take at is_before) in
    let inside : k < length xs = omega (arith, before, within) in
    let there : get_or xs k y ≡ x = get_or_default xs k y x inside ∙ sym (get_or-take i xs k x before) ∙ is_there in
    let here : y ≡ get_or xs i y = sym stands ∙ get_or_default xs i d y within in
    distinct k i y before within (subst (λ (z : X). Like z (get_or xs i y)) (sym there) (subst (λ (z : X). Like x z) here is_like))

-- an item that is like none before it
pub unlike_before : {X : Type 0} (Like : X → X → Type 0) (xs : List X) (i : ℕ) (y d : X) → i < length xs → get_or xs i d ≡ y → (Any (λ x. Like x y) (take i xs) → ⊥) → AllPairs (λ x z. ¬ Like x z) (take i xs) → AllPairs (λ x z. ¬ Like x z) (take (i + 1) xs)
unlike_before {X} Like xs i y d within stands unlike distinct =
    subst (λ (front : List X). AllPairs (λ x z. ¬ Like x z) front) (sym (take_more xs i d within))
    (all_pairs_push (λ x z. ¬ Like x z) (take i xs) (get_or xs i d) distinct
    (λ k e before likes. unlike (k, get_or (take i xs) k e, before, get_or_default (take i xs) k (get_or (take i xs) k e) e before, subst (λ (z : X). Like (get_or (take i xs) k e) z) stands likes)))
