-- What is written for the arguments and the bytes of the input, and with which status.
use Rattle.std.specs.Prelude.{ℕ, ◌<◌, ◌≤◌, List, ◌++◌, length, codes}
use Rattle.list_base.specs.Numeral.{numeral}
use Rattle.dimacs.specs.declared.arguments.Options.{Options}
use Rattle.dimacs.specs.declared.status.Status.{Status}
use Rattle.dimacs.specs.declared.status.Status.TheVariants as status
use Rattle.dimacs.specs.declared.verdict.Verdict.{Verdict}
use Rattle.dimacs.specs.AnswerText.{answer_text}
use Rattle.dimacs.specs.Arguments.{HasOptions, IsUsage}
use Rattle.dimacs.specs.Dimacs.{IsNoFormula, text_lines}
use Rattle.dimacs.specs.RefusedLine.{StopsAt}
use Rattle.dimacs.specs.Status.{solver_status}
use Rattle.dimacs.specs.Verdict.{IsRightVerdict}

-- the most bytes that an input has
abbrev pub dimacs_input_limit : ℕ
dimacs_input_limit = 536870912

-- the line for invalid arguments
abbrev pub dimacs_usage : List ℕ
dimacs_usage = codes "usage: dimacs_sat [--lrat] [--budget N]\n"

-- the line for an input that is too long
abbrev pub refused_length : List ℕ
refused_length = codes "refused length\n"

-- the line for an input that is no formula, with the number of the line at which reading stops
abbrev pub refused_line : ℕ → List ℕ
refused_line line = codes "refused line " ++ numeral line ++ codes "\n"

-- the output and the status for an input that was read with these options
pub data Decides (options : Options) (input : List ℕ) : List ℕ → Status → Type 0 where
  -- the input is too long
  too_long : dimacs_input_limit < length input → Decides options input refused_length status.Refused
  -- it is no formula
  no_formula : (line : ℕ) → length input ≤ dimacs_input_limit → IsNoFormula input
      → StopsAt (text_lines input) line
      → Decides options input (refused_line line) status.Refused
  -- it is one, and the verdict on it is right
  decided : (verdict : Verdict) → length input ≤ dimacs_input_limit
      → IsRightVerdict input options verdict
      → Decides options input (answer_text verdict) (solver_status verdict)

-- the output and the status for the arguments and the input
pub data DimacsOutput (args : List (List ℕ)) (input : List ℕ) : List ℕ → Status → Type 0 where
  -- the arguments are invalid
  usage : IsUsage args → DimacsOutput args input dimacs_usage status.Usage
  -- they give options
  read : (options : Options) (out : List ℕ) (end : Status) → HasOptions args options
      → Decides options input out end
      → DimacsOutput args input out end
