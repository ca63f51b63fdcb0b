-- The line that names a role.
use Rattle.std.specs.Prelude.{◌≡◌, ℕ, ◌<◌, List, ◌++◌, length}
use Rattle.bspl_types.specs.declared.expanded.Expanded.{Expanded}
use Rattle.bspl_types.specs.Expansion.{role_name}
use Rattle.agent_commands.specs.declared.wording.TheConstants.{ROLE}

-- without its LF the line is that of the role
pub record IsRoleOf (x : Expanded) (first : List ℕ) (role : ℕ) : Type 0 where
  pub known : role < length x.roles
  pub is_line : first ≡ ROLE.now ++ role_name x role
