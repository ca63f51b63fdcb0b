-- The exit statuses of the program.
use Rattle.std.specs.Prelude.{ℕ}
use Rattle.program_frame.specs.Ending.{exit_number}
use Rattle.tool_input.specs.Status.{exit_status}
use Rattle.live_role.specs.declared.role_end.RoleEnding.{RoleEnding}
use Rattle.live_role.specs.declared.role_end.RoleEnding.TheVariants.{Ended, NotKept}

-- 8 if keeping failed, and else the number that every program has for the ending
abbrev pub role_exit : RoleEnding → ℕ
role_exit (Ended end) = exit_number exit_status end
role_exit NotKept = 8
