-- Which arguments a command line may have at all.
use Rattle.std.specs.Prelude.{ℕ, Bool, not, ◌||◌, List, [], ◌∷◌, nat_eq, codes}
use Rattle.std.specs.List.{list_any, starts_with}
use Rattle.std.specs.Str.{bytes_eq}
use Rattle.command_line.specs.Argument.{begins_with_dash}

-- `--`, and the options as whole arguments
abbrev pub options : List (List ℕ)
options = codes "--" ∷ codes "--brief" ∷ codes "--conflicts" ∷ codes "--threads" ∷ []

-- an argument that does not begin with `-`, or one of the options, with its value or without
abbrev pub is_known : List ℕ → Bool
is_known word =
    not (begins_with_dash word) || list_any (bytes_eq word) options ||
    starts_with nat_eq word (codes "--conflicts=") || starts_with nat_eq word (codes "--threads=")
