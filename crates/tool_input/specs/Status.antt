-- The statuses in which an answer ends.
use Rattle.std.specs.Prelude.{ℕ}
use Rattle.tool_input.specs.declared.status.Status.{Status}
use Rattle.tool_input.specs.declared.status.Status.TheVariants.{Done, Refuted, Undecided, Usage, Refused}

-- the exit status of the program; 5, 6 and 7 are for calls without an answer
abbrev pub exit_status : Status → ℕ
exit_status Done = 0
exit_status Refuted = 1
exit_status Undecided = 2
exit_status Usage = 3
exit_status Refused = 4
