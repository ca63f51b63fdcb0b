-- The rejections of names that a protocol does not declare, beside that of a message.
use Rattle.std.specs.Prelude.{ℕ, List}
use Rattle.tool_input.specs.declared.rejection.Code.TheVariants.{E}
use Rattle.tool_input.specs.declared.rejection.Field.TheVariants as field
use Rattle.tool_input.specs.declared.rejection.Rejection.{Rejection}
use Rattle.tool_input.specs.Rejection.{with_one}

-- no role has the name, or no parameter
abbrev pub undeclared_role : List ℕ → Rejection
undeclared_role name = with_one (E 16) (field.Name name)

abbrev pub undeclared_parameter : List ℕ → Rejection
undeclared_parameter name = with_one (E 17) (field.Name name)
