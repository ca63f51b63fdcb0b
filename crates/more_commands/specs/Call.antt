-- What one call reads and writes.
use Rattle.std.specs.Prelude.{ℕ, List}
use Rattle.bspl_io.specs.Traffic.{Traffic}
use Rattle.program_frame.specs.declared.ending.Ending.{Ending}
use Rattle.tool_input.specs.Call.{IsToolCall}
use Rattle.tool_input.specs.declared.status.Status.{Status}
use Rattle.more_commands.specs.Interface.{more_interface}

-- the call of a program with these arguments, whose outputs are those of the commands
abbrev pub IsMoreCall : List (List ℕ) → Traffic → Ending Status → Type 0
IsMoreCall = IsToolCall more_interface
