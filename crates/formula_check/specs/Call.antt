-- What one call reads and writes.
use Rattle.std.specs.Prelude.{ℕ, List}
use Rattle.bspl_io.specs.Traffic.{Traffic}
use Rattle.bspl_types.specs.Limits.{input_limit}
use Rattle.program_frame.specs.Call.{IsCall}
use Rattle.program_frame.specs.declared.ending.Ending.{Ending}
use Rattle.tool_input.specs.declared.status.Status.{Status}
use Rattle.formula_check.specs.Output.{CheckOutput}
use Rattle.formula_check.specs.Request.{HasNoArgument}

-- the call of a program with these arguments, whose outputs answer logs
abbrev pub IsCheckCall : List (List ℕ) → Traffic → Ending Status → Type 0
IsCheckCall args t ending = IsCall (HasNoArgument args) input_limit (CheckOutput args) t ending
