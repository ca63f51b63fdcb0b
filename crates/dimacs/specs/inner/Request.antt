-- What the arguments request, as the code keeps it.
use Rattle.std.specs.Prelude.{ℕ, ◌≤◌, List, Option, None, Some}
use Rattle.dimacs.specs.declared.arguments.Options.{Options}
use Rattle.dimacs.specs.Arguments.{HasOptions, IsUsage}

-- they give these options, whose budget is in range, or none
abbrev pub IsRequest : List (List ℕ) → Option Options → Type 0
IsRequest args None = IsUsage args
IsRequest args (Some o) = HasOptions args o × (1 ≤ o.budget) × (o.budget ≤ 2147483647)
