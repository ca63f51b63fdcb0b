-- The exit statuses of programs.
use Rattle.std.specs.Prelude.{ℕ}
use Rattle.program_frame.specs.declared.ending.Ending.{Ending}
use Rattle.program_frame.specs.declared.ending.Ending.TheVariants.{Answered, ReadFault, WriteFault, NoMemory}

-- an answer has the number of its status, and each way to fail has one in all programs
abbrev pub exit_number : {S : Type 0} → (S → ℕ) → Ending S → ℕ
exit_number number (Answered status) = number status
exit_number number ReadFault = 5
exit_number number WriteFault = 6
exit_number number NoMemory = 7
