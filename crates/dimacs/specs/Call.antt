-- What one call reads and writes.
use Rattle.std.specs.Prelude.{ℕ, List}
use Rattle.bspl_io.specs.Traffic.{Traffic}
use Rattle.program_frame.specs.Call.{IsCall}
use Rattle.program_frame.specs.declared.ending.Ending.{Ending}
use Rattle.dimacs.specs.declared.arguments.Options.{Options}
use Rattle.dimacs.specs.declared.status.Status.{Status}
use Rattle.dimacs.specs.Arguments.{HasOptions}
use Rattle.dimacs.specs.Output.{DimacsOutput, dimacs_input_limit}

-- the arguments ask for the input: they give options
abbrev pub AsksForInput : List (List ℕ) → Type 0
AsksForInput args = (options : Options) × HasOptions args options

-- the call of a program with these arguments, whose outputs answer formulas
abbrev pub IsDimacsCall : List (List ℕ) → Traffic → Ending Status → Type 0
IsDimacsCall args t ending =
    IsCall (AsksForInput args) dimacs_input_limit (DimacsOutput args) t ending
