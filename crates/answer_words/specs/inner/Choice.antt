-- What is appended on one sign.
use Rattle.std.specs.Prelude.{◌≡◌, ◌⊎◌, ℕ, List, ◌∷◌, ◌++◌}
use Rattle.answer_words.specs.Choices.{MayComeNext}

-- the sign after a space, if it may stand there, and else nothing
abbrev pub IsChoice : List ℕ → List ℕ → List ℕ → List ℕ → Type 0
IsChoice before sign old new =
    (MayComeNext before sign × (new ≡ old ++ 32 ∷ sign))
    ⊎ ((¬ MayComeNext before sign) × (new ≡ old))
