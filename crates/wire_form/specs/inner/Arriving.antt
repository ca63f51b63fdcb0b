-- Which message is to be received.
use Rattle.std.specs.Prelude.{◌≡◌, ℕ, ◌<◌, List, length}
use Rattle.std.specs.List.{AllZip}
use Rattle.bspl_types.specs.declared.expanded.Expanded.{Expanded}
use Rattle.bspl_types.specs.declared.value.Value.{Value}
use Rattle.bspl_types.specs.Adornment.{valued}
use Rattle.bspl_types.specs.Expansion.{message_name, message_of}
use Rattle.wire_form.specs.Meaning.{IsGiven}
use Rattle.wire_form.specs.Request.{NamedField}

-- the role receives the message of that number and name, whose values are exactly those given
pub record IsArriving (x : Expanded) (role : ℕ) (name : List ℕ) (fields : List NamedField) (m : ℕ)
    (values : List Value) : Type 0 where
  pub known : m < length x.messages
  pub named : message_name x m ≡ name
  pub own : (message_of x m).receiver ≡ role
  pub given : AllZip (IsGiven x fields) (valued (message_of x m).carried) values
  pub no_other : length fields ≡ length values
