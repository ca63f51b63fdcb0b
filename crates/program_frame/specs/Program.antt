-- What a program is given, and what it needs.
use Rattle.std.specs.Prelude.{ℕ, List}

-- some arguments request this
abbrev pub IsRequested : {X : Type 0} → (List (List ℕ) → X → Type 0) → X → Type 0
IsRequested requests x = (args : List (List ℕ)) × requests args x

-- if the arguments ask for no input, what is answered to one input is right for each other one
abbrev pub NeedsNoInput : {S : Type 0} → Type 0 → (List ℕ → List ℕ → S → Type 0) → Type 0
NeedsNoInput {S} asks answers = ¬ asks → (bytes other out : List ℕ) (status : S)
    → answers bytes out status → answers other out status
