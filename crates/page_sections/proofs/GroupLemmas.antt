-- Fragments that are written in groups, one after another.
use Rattle.std.proofs.Common.{◌≡◌, ℕ, List, [], ◌∷◌, ◌++◌, refl, sym, ap, ◌∙◌}
use Rattle.std.specs.List.{flat_map}
use Rattle.std.proofs.lemmas.List.{append_assoc}
use Rattle.std.proofs.lemmas.Grind.{flat_map-append}
use Rattle.html.specs.Fragment.{Fragment, fragment_text, as_html}

-- two groups
pub written_two : (old : List ℕ) (a b : List Fragment) → (old ++ as_html a) ++ as_html b ≡ old ++ as_html (a ++ b)
written_two old a b = append_assoc old (as_html a) (as_html b) ∙ ap (λ (ys : List ℕ). old ++ ys) (sym (flat_map-append fragment_text a b))

-- one group after what is written
pub then_written : (old middle new : List ℕ) (a b : List Fragment) → middle ≡ old ++ as_html a → new ≡ middle ++ as_html b → new ≡ old ++ as_html (a ++ b)
then_written old middle new a b first second = second ∙ ap (λ (ys : List ℕ). ys ++ as_html b) first ∙ written_two old a b

-- items that are written one by one are written together
pub written_items : {X : Type 0} (f : X → List Fragment) (xs : List X) → as_html (flat_map f xs) ≡ flat_map (λ x. as_html (f x)) xs
written_items f [] = refl
written_items f (x ∷ xs) = flat_map-append fragment_text (f x) (flat_map f xs) ∙ ap (λ (ys : List ℕ). as_html (f x) ++ ys) (written_items f xs)
