-- The texts that are written.
use Rattle.std.specs.Prelude.{ℕ, List}
use Rattle.std.specs.List.{Contains}
use Rattle.tool_input.specs.Lines.{lines}
use Rattle.bspl_tool.specs.declared.wording.TheConstants.{USAGE}

-- one of the text's lines is this one
abbrev pub SaysLine : List ℕ → List ℕ → Type 0
SaysLine text said = Contains (lines text) said

-- what a command line looks like
abbrev pub usage_text : List ℕ
usage_text = USAGE.now
