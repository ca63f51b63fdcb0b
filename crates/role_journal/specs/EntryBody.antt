-- The bytes of an entry of a role's history, as they stand on a disk.
use Rattle.std.specs.Prelude.{◌≡◌, ℕ, ◌-◌, ◌*◌, ◌<◌, ◌^◌, List, [], ◌∷◌, ◌++◌, length, replicate}
use Rattle.std.specs.Int.{to_le_bytes, w32, w64}
use Rattle.std.specs.List.{All, flat_map}
use Rattle.bspl_types.specs.declared.event.Event.{Event}
use Rattle.bspl_types.specs.declared.event.Event.TheVariants.{Emit, Receive}
use Rattle.bspl_types.specs.declared.event.Instance.{Instance}
use Rattle.bspl_types.specs.declared.expanded.Expanded.{Expanded}
use Rattle.bspl_types.specs.declared.value.Value.{Value}
use Rattle.bspl_types.specs.declared.value.Value.TheVariants.{Number, Text}
use Rattle.bspl_types.specs.Admission.{IsAdmitted}
use Rattle.bspl_types.specs.History.{instance_of}
use Rattle.bspl_types.specs.Instance.{Fits}
use Rattle.bspl_types.specs.Value.{IsValue}
use Rattle.stamped_history.specs.declared.entry.Entry.{Entry}

-- the 34 bytes of a value: 0 for a number and 1 for a text; how many bytes it has; these bytes, the
-- lowest of a number first; zeros
abbrev pub value_body : Value → List ℕ
value_body (Number n) = 0 ∷ 8 ∷ [] ++ to_le_bytes w64 n ++ replicate 24 0
value_body (Text bytes) = 1 ∷ length bytes ∷ [] ++ bytes ++ replicate (32 - length bytes) 0

-- 0 for an emission and 1 for a receipt
abbrev pub event_tag : Event → ℕ
event_tag (Emit i) = 0
event_tag (Receive i) = 1

-- the 561 bytes of an entry: its kind, message, stamp and number, a field for each value, and zeros
-- up to sixteen fields
abbrev pub entry_body : Entry → List ℕ
entry_body e =
    event_tag e.event ∷ [] ++ to_le_bytes w32 (instance_of e.event).message
    ++ to_le_bytes w64 e.stamp ++ to_le_bytes w32 e.number
    ++ flat_map value_body (instance_of e.event).values
    ++ replicate (34 * (16 - length (instance_of e.event).values)) 0

-- an entry of some history of the protocol, each part of which has a size
pub record IsEntry (x : Expanded) (e : Entry) : Type 0 where
  pub fits : Fits x (instance_of e.event)
  pub values : All IsValue (instance_of e.event).values
  pub stamp : e.stamp < 2 ^ 64
  pub number : e.number < 2 ^ 32

-- two entries of one body are one
abbrev pub BodiesAreDistinct : Type 0
BodiesAreDistinct =
    (x : Expanded) (e f : Entry) → IsAdmitted x → IsEntry x e → IsEntry x f →
    entry_body e ≡ entry_body f → e ≡ f

-- each entry's body is as long as a place behind its gate
abbrev pub BodiesAreWhole : Type 0
BodiesAreWhole = (x : Expanded) (e : Entry) → IsEntry x e → length (entry_body e) ≡ 561

-- instances that fit, with one message and the same values, are one
abbrev pub FittingInstancesAreOne : Type 0
FittingInstancesAreOne =
    (x : Expanded) (i j : Instance) → IsAdmitted x → Fits x i → Fits x j →
    i.message ≡ j.message → i.values ≡ j.values → i ≡ j
