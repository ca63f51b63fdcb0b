-- What the fields of a body are, whatever its other bytes are.
use Rattle.std.specs.Prelude.{◌≡◌, ℕ, zero, suc, ◌<◌, ◌≤◌, ◌==◌, if◌then◌else◌, min}
use Rattle.std.specs.Prelude.{List, [], ◌∷◌, drop, length, slice_index, take}
use Rattle.std.specs.Int.{from_le_bytes, w64}
use Rattle.bspl_types.specs.declared.event.Event.{Event}
use Rattle.bspl_types.specs.declared.event.Event.TheVariants.{Emit, Receive}
use Rattle.bspl_types.specs.declared.event.Instance.{Instance}
use Rattle.bspl_types.specs.declared.expanded.Expanded.{Expanded}
use Rattle.bspl_types.specs.declared.protocol.Carried.{Carried}
use Rattle.bspl_types.specs.declared.value.Value.{Value}
use Rattle.bspl_types.specs.declared.value.Value.TheVariants.{Number, Text}
use Rattle.bspl_types.specs.Adornment.{valued}
use Rattle.bspl_types.specs.Expansion.{message_of}

-- the emission of the instance if the kind is 0, else its receipt
abbrev pub event_of : ℕ → Instance → Event
event_of kind i = if kind == 0 then Emit i else Receive i

-- the value of a field: a number if the first byte is 0, else a text of at most 32 bytes
abbrev pub value_in : List ℕ → Value
value_in field =
    if slice_index field 0 == 0 then Number (from_le_bytes w64 (take 8 (drop 2 field)))
    else Text (take (min (slice_index field 1) 32) (drop 2 field))

-- the values of so many fields
abbrev pub values_in : ℕ → List ℕ → List Value
values_in zero fields = []
values_in (suc count) fields = value_in (take 34 fields) ∷ values_in count (drop 34 fields)

-- the value of the parameter in these pairs, or 0
abbrev pub value_at : ℕ → List (Carried × Value) → Value
value_at p [] = Number 0
value_at p ((c, v) ∷ pairs) = if c.param == p then v else value_at p pairs

-- the message exists, and an instance of it has so many values
pub record HasValues (x : Expanded) (m count : ℕ) : Type 0 where
  pub known : m < length x.messages
  pub count_is : count ≡ length (valued (message_of x m).carried)
  pub few : count ≤ 16
