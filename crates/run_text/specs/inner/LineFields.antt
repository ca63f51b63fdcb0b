-- How the fields of a line are written one after another, and what they spell.
use Rattle.std.specs.Prelude.{◌≡◌, ℕ, ◌==◌, if◌then◌else◌, List, [], ◌∷◌, length, map}
use Rattle.std.specs.Prelude.{Option, Some, None}
use Rattle.std.specs.List.{All, flat_map, join_with_byte, zip}
use Rattle.bspl_types.specs.declared.event.Instance.{Instance}
use Rattle.bspl_types.specs.declared.expanded.Expanded.{Expanded}
use Rattle.bspl_types.specs.declared.protocol.Carried.{Carried}
use Rattle.bspl_types.specs.declared.protocol.ParamInfo.{ParamInfo}
use Rattle.bspl_types.specs.declared.value.Value.{Value}
use Rattle.bspl_types.specs.declared.value.Value.TheVariants.{Number}
use Rattle.bspl_types.specs.Value.{IsValue}
use Rattle.run_text.specs.RunText.{value_field, instance_fields}
pub use Rattle.run_text.specs.RunText.{event_body}

-- the fields, each after a space
abbrev pub spaced_fields : List (List ℕ) → List ℕ
spaced_fields fields = flat_map (λ field. 32 ∷ field) fields

-- what follows a field: nothing, or a space and the other fields
abbrev pub tail_of : Option (List ℕ) → List ℕ
tail_of None = []
tail_of (Some fields) = 32 ∷ fields

-- the values of these parameters, in order, each in its field
abbrev pub value_fields : List ParamInfo → List Carried → List Value → List ℕ
value_fields params carried values = spaced_fields (map (value_field params) (zip carried values))

-- the tail of a line spells a value for each of these parameters
pub record SpellsValues
    (params : List ParamInfo) (carried : List Carried) (tail : List ℕ) (values : List Value)
    : Type 0 where
  pub each : length values ≡ length carried
  pub good : All IsValue values
  pub spelled : tail ≡ value_fields params carried values

-- the fields of an instance, with one space between them
abbrev pub instance_body : Expanded → Instance → List ℕ
instance_body x i = join_with_byte 32 (instance_fields x i)

-- the value of the parameter in these pairs, or 0
abbrev pub value_at : ℕ → List (Carried × Value) → Value
value_at p [] = Number 0
value_at p ((c, v) ∷ pairs) = if c.param == p then v else value_at p pairs
