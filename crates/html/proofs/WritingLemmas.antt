-- Fragments that are written one after another.
use Rattle.std.proofs.Common.{◌≡◌, ℕ, ◌+◌, ◌<◌, List, [], ◌∷◌, ◌++◌, length, take, get_or, sym, ap, ◌∙◌}
use Rattle.std.specs.List.{flat_map}
use Rattle.std.proofs.lemmas.List.{append_assoc, append-nil, take_more}
use Rattle.std.proofs.lemmas.Grind.{flat_map-append}
use Rattle.html.specs.Fragment.{Fragment, fragment_text, as_html}

-- one group after others
pub then_written : (old text : List ℕ) (a b : List Fragment) → text ≡ old ++ as_html a → text ++ as_html b ≡ old ++ as_html (a ++ b)
then_written old text a b is =
    ap (λ (ys : List ℕ). ys ++ as_html b) is
    ∙ append_assoc old (as_html a) (as_html b)
    ∙ ap (λ (ys : List ℕ). old ++ ys) (sym (flat_map-append fragment_text a b))

-- three groups
pub written_three : (old : List ℕ) (a b c : List Fragment) → ((old ++ as_html a) ++ as_html b) ++ as_html c ≡ old ++ as_html ((a ++ b) ++ c)
written_three old a b c = then_written old _ (a ++ b) c (then_written old _ a b (λ _. old ++ as_html a))

-- the fragments of one item more
pub written_more : {X : Type 0} (f : X → List Fragment) (old text : List ℕ) (xs : List X) (x : X) → text ≡ old ++ as_html (flat_map f xs) → text ++ as_html (f x) ≡ old ++ as_html (flat_map f (xs ++ x ∷ []))
written_more f old text xs x is =
    then_written old text (flat_map f xs) (f x) is
    ∙ ap (λ (ps : List Fragment). old ++ as_html ps) (sym (flat_map-append f xs (x ∷ []) ∙ ap (λ (ps : List Fragment). flat_map f xs ++ ps) (append-nil (f x))))

-- the fragments of the next item of a list
pub written_next : {X : Type 0} (f : X → List Fragment) (old : List ℕ) (xs : List X) (i : ℕ) (d : X) → i < length xs → (old ++ as_html (flat_map f (take i xs))) ++ as_html (f (get_or xs i d)) ≡ old ++ as_html (flat_map f (take (i + 1) xs))
written_next {X} f old xs i d within =
    written_more f old (old ++ as_html (flat_map f (take i xs))) (take i xs) (get_or xs i d) (λ _. old ++ as_html (flat_map f (take i xs)))
    ∙ ap (λ (items : List X). old ++ as_html (flat_map f items)) (sym (take_more xs i d within))
