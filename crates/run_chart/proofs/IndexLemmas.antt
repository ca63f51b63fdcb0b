-- Lists with their indices, one item at a time.
use Rattle.std.proofs.Common.{◌≡◌, ℕ, ◌+◌, ◌<◌, ◌≤◌, List, ◌++◌, length, take, get_or, sym, ap, ◌∙◌, arith}
use Rattle.std.specs.List.{enumerate_from, flat_map}
use Rattle.std.proofs.lemmas.List.{take_all}
use Rattle.std.proofs.lemmas.List.FromFn.{get_or-enumerate_from, length-enumerate_from}
use Rattle.html.specs.Fragment.{Fragment, as_html}
use Rattle.run_chart.proofs.WritingLemmas.{written_next}

-- a list with its indices, and one item more
pub enumerate_more : {X : Type 0} (f : ℕ × X → List Fragment) (old : List ℕ) (xs : List X) (k : ℕ) (d : X) → k < length xs → (old ++ as_html (flat_map f (take k (enumerate_from 0 xs)))) ++ as_html (f (k, get_or xs k d)) ≡ old ++ as_html (flat_map f (take (k + 1) (enumerate_from 0 xs)))
enumerate_more {X} f old xs k d within =
    let all = enumerate_from 0 xs in
    let inside : k < length all = omega (arith, within, length-enumerate_from 0 xs) in
    let number : 0 + k ≡ k = omega arith in
    let pair : ℕ → ℕ × X = λ n. (n, get_or xs k d) in
    let item : get_or all k (0, d) ≡ (k, get_or xs k d) = get_or-enumerate_from 0 xs k (0, d) within ∙ ap pair number in
    ap (λ (p : ℕ × X). (old ++ as_html (flat_map f (take k all))) ++ as_html (f p)) (sym item)
    ∙ written_next f old all k (0, d) inside

-- all of it
pub enumerate_all : {X : Type 0} (f : ℕ × X → List Fragment) (old : List ℕ) (xs : List X) (k : ℕ) → length xs ≤ k → old ++ as_html (flat_map f (take k (enumerate_from 0 xs))) ≡ old ++ as_html (flat_map f (enumerate_from 0 xs))
enumerate_all {X} f old xs k all = ap (λ (ps : List (ℕ × X)). old ++ as_html (flat_map f ps)) (take_all k (enumerate_from 0 xs) (omega (arith, all, length-enumerate_from 0 xs)))
