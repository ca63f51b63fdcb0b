-- What is refused where no role has the name.
use Rattle.tool_input.specs.declared.rejection.Code.TheVariants.{F}
use Rattle.tool_input.specs.declared.rejection.Rejection.{Rejection}
use Rattle.tool_input.specs.Rejection.{bare}

-- the rejection of a name that no role has
abbrev pub unknown_role : Rejection
unknown_role = bare (F 5)
