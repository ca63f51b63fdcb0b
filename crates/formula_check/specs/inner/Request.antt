-- What the arguments request, as the code keeps it.
use Rattle.std.specs.Prelude.{ℕ, ◌↔◌, Bool, IsTrue, List}
use Rattle.formula_check.specs.Request.{HasNoArgument}

-- whether they ask for the input
abbrev pub IsRequest : List (List ℕ) → Bool → Type 0
IsRequest args valid = IsTrue valid ↔ HasNoArgument args
