-- A text to whose end two more are written.
use Rattle.std.proofs.Common.{◌≡◌, ◌++◌, ◌∙◌, ap, ℕ, List}
use Rattle.std.proofs.lemmas.List.{append_assoc}

-- written one after the other, they are written as one
pub then_more : (old a b : List ℕ) {one two : List ℕ} → one ≡ old ++ a → two ≡ one ++ b → two ≡ old ++ (a ++ b)
then_more old a b first second = second ∙ ap (λ text. text ++ b) first ∙ append_assoc old a b
