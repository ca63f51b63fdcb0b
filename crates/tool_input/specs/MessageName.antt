-- What is refused where no message has the name.
use Rattle.std.specs.Prelude.{ℕ, List}
use Rattle.tool_input.specs.declared.rejection.Code.TheVariants.{E}
use Rattle.tool_input.specs.declared.rejection.Field.TheVariants as field
use Rattle.tool_input.specs.declared.rejection.Rejection.{Rejection}
use Rattle.tool_input.specs.Rejection.{with_one}

-- the rejection of a name that no message has
abbrev pub unknown_message : List ℕ → Rejection
unknown_message name = with_one (E 15) (field.Name name)
