-- Words, each after a space.
use Rattle.std.specs.Prelude.{ℕ, List, [], ◌∷◌, ◌++◌, codes}
use Rattle.std.specs.List.{flat_map}

-- each word after a space
abbrev pub after_spaces : List (List ℕ) → List ℕ
after_spaces words = flat_map (λ word. codes " " ++ word) words

-- each message after the word `but`
abbrev pub excused_words : List (List ℕ) → List (List ℕ)
excused_words excused = flat_map (λ m. codes "but" ∷ m ∷ []) excused
