-- What a request means for a role of a protocol, and what is read of a line.
use Rattle.std.specs.Prelude.{◌≡◌, ℕ, ◌<◌, List, Some, length}
use Rattle.std.specs.List.{AllZip}
use Rattle.serde_json.specs.Data.{string}
use Rattle.serde_json.specs.Find.{get_member}
use Rattle.bspl_types.specs.declared.envelope.Stamped.{Stamped}
use Rattle.bspl_types.specs.declared.expanded.Expanded.{Expanded}
use Rattle.bspl_types.specs.declared.protocol.Carried.{Carried}
use Rattle.bspl_types.specs.declared.value.Value.{Value}
use Rattle.bspl_types.specs.Adornment.{valued}
use Rattle.bspl_types.specs.Choice.{chosen_params}
use Rattle.bspl_types.specs.Expansion.{message_name, message_of, param_name}
use Rattle.bspl_types.specs.Instance.{Fits}
use Rattle.bspl_types.specs.Value.{IsValue}
use Rattle.bspl_types.specs.ValueSpelling.{SpellsValue, value_spelling}
use Rattle.list_base.specs.Lines.{Line}
use Rattle.wire_form.specs.declared.act.Act.{Act}
use Rattle.wire_form.specs.declared.act.Act.TheVariants.{Arrival, Attempt}
use Rattle.wire_form.specs.declared.act.Reading.{Reading}
use Rattle.wire_form.specs.declared.act.Reading.TheVariants.{NotRead, NotMeant, Meant}
use Rattle.wire_form.specs.Request.{Asks, NamedField, Request, emit, fields_data, receive}

-- the text under the parameter's name spells the value
pub record IsGiven (x : Expanded) (fields : List NamedField) (c : Carried) (v : Value)
    : Type 0 where
  pub value : IsValue v
  pub given : get_member (param_name x c.param) (fields_data fields)
      ≡ Some (string (value_spelling v))

-- a message that the role receives, with exactly these values
pub record MeansArrival (x : Expanded) (role : ℕ) (message : List ℕ) (fields : List NamedField)
    (m : Stamped) : Type 0 where
  pub fits : Fits x m.instance
  pub named : message_name x m.instance.message ≡ message
  pub own : (message_of x m.instance.message).receiver ≡ role
  pub given : AllZip (IsGiven x fields) (valued (message_of x m.instance.message).carried)
      m.instance.values
  pub no_other : length fields ≡ length m.instance.values

-- a message that the role sends, with a value for each key and for each choice of its sender
pub record MeansAttempt (x : Expanded) (role : ℕ) (key : List (List ℕ)) (message : List ℕ)
    (outs : List (List ℕ)) (m : ℕ) (key_values out_values : List Value) : Type 0 where
  pub known : m < length x.messages
  pub named : message_name x m ≡ message
  pub own : (message_of x m).sender ≡ role
  pub key_spelled : AllZip SpellsValue key key_values
  pub whole_key : length key ≡ length x.keys
  pub outs_spelled : AllZip SpellsValue outs out_values
  pub chosen : length outs ≡ length (chosen_params x m)

-- the request means the act
abbrev pub Means : Expanded → ℕ → Request → Act → Type 0
Means x role (receive message count stamp fields) (Arrival m) =
    MeansArrival x role message fields m × (m.number ≡ count) × (m.stamp ≡ stamp)
Means x role (receive message count stamp fields) (Attempt m key outs) = ⊥
Means x role (emit key message outs) (Arrival m) = ⊥
Means x role (emit key message outs) (Attempt m key_values out_values) =
    MeansAttempt x role key message outs m key_values out_values

-- the line asks for the act
pub record AsksFor (x : Expanded) (role : ℕ) (line : Line) (act : Act) : Type 0 where
  pub request : Request
  pub asks : Asks line request
  pub means : Means x role request act

-- the line asks for something that means nothing for the role
pub record AsksInVain (x : Expanded) (role : ℕ) (line : Line) : Type 0 where
  pub request : Request
  pub asks : Asks line request
  pub nothing : (act : Act) → ¬ Means x role request act

-- the line asks for nothing
abbrev pub AsksNothing : Line → Type 0
AsksNothing line = (request : Request) → ¬ Asks line request

-- what is read of a line
abbrev pub IsLineReading : Expanded → ℕ → Line → Reading → Type 0
IsLineReading x role line NotRead = AsksNothing line
IsLineReading x role line NotMeant = AsksInVain x role line
IsLineReading x role line (Meant act) = AsksFor x role line act
