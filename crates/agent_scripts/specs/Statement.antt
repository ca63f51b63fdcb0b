-- What a line says of a protocol, with roles, messages and parameters by their numbers.
use Rattle.std.specs.Prelude.{◌≡◌, ℕ, ◌<◌, List, [], length, map, slice_index_or}
use Rattle.std.specs.List.{All, Contains}
use Rattle.bspl_types.specs.declared.expanded.Expanded.{Expanded}
use Rattle.bspl_types.specs.declared.protocol.Adornment.TheVariants.{Out}
use Rattle.bspl_types.specs.Expansion.{message_of, Adorns, message_name, role_name}
use Rattle.agent_scripts.specs.declared.statement.Statement.{Statement}
use Rattle.agent_scripts.specs.declared.statement.Statement.TheVariants as says
use Rattle.agent_scripts.specs.Table.{LineForm, Set, Key, Order, Decline, Bind, written, IsInTable}
use Rattle.text_lines.specs.Fields.{Field}

-- the name of a parameter
abbrev pub param_field : Expanded → ℕ → Field
param_field x p = slice_index_or (map (λ info. info.name) x.params) p []

-- what the statement says, in names
abbrev pub line_form : Expanded → Statement → LineForm
line_form x (says.Set setting n) = Set setting n
line_form x (says.Key values) = Key values
line_form x (says.Order role messages) = Order (role_name x role) (map (message_name x) messages)
line_form x (says.Decline m every) = Decline (message_name x m) every
line_form x (says.Bind m p rule) = Bind (message_name x m) (param_field x p) rule

-- the message exists, and that role sends it
abbrev pub IsSentBy : Expanded → ℕ → ℕ → Type 0
IsSentBy x role m = (m < length x.messages) × ((message_of x m).sender ≡ role)

-- the parameter is an `out` of the message, and no key
abbrev pub IsFreeOut : Expanded → ℕ → ℕ → Type 0
IsFreeOut x m p = Adorns x m Out p × ¬ Contains x.keys p

-- its role, its messages and its parameter are declared, the messages of an order are sent by its
-- role, and the parameter is one whose value the message gives
abbrev pub IsDeclaredIn : Expanded → Statement → Type 0
IsDeclaredIn x (says.Set setting n) = Unit {0}
IsDeclaredIn x (says.Key values) = Unit {0}
IsDeclaredIn x (says.Order role messages) = (role < length x.roles) × All (IsSentBy x role) messages
IsDeclaredIn x (says.Decline m every) = m < length x.messages
IsDeclaredIn x (says.Bind m p rule) = (m < length x.messages) × IsFreeOut x m p

-- the fields have the form of a line of the table
abbrev pub HasLineForm : Expanded → List Field → Type 0
HasLineForm x fields =
    (form : LineForm) × IsInTable (length x.keys) form × (fields ≡ written form)

-- the fields mean the statement
pub record Means (x : Expanded) (fields : List Field) (s : Statement) : Type 0 where
  pub known : IsDeclaredIn x s
  pub in_table : IsInTable (length x.keys) (line_form x s)
  pub fields_are : fields ≡ written (line_form x s)
