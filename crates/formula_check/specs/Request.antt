-- What the arguments request.
use Rattle.std.specs.Prelude.{◌≡◌, ℕ, List, []}

-- there is no argument, so a formula and a log are read
abbrev pub HasNoArgument : List (List ℕ) → Type 0
HasNoArgument args = args ≡ []
