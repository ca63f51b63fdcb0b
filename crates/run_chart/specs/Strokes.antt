-- What is drawn of a run: a mark for each event, an arrow for each reception, and a stub for each
-- emission that is not received.
use Rattle.std.specs.Prelude.{ℕ, ◌==◌, Bool, false, ◌&&◌, if◌then◌else◌, List, [], ◌∷◌, ◌++◌}
use Rattle.std.specs.Prelude.{Option, None, Some}
use Rattle.std.specs.List.{enumerate_from, flat_map, list_any, position}
use Rattle.bspl_types.specs.declared.event.Event.{Event}
use Rattle.bspl_types.specs.declared.event.Event.TheVariants.{Emit, Receive}
use Rattle.bspl_types.specs.declared.event.Instance.{Instance}
use Rattle.bspl_types.specs.declared.expanded.Expanded.{Expanded}
use Rattle.bspl_types.specs.declared.protocol.Message.{Message}
use Rattle.bspl_types.specs.Expansion.{message_of}
use Rattle.bspl_types.specs.History.{role_of}
use Rattle.bspl_types.specs.Value.{equal_values}

-- a mark at the row of an event, on the lifeline of its role; an arrow from the row and role of an
-- emission to those of a reception; a stub from the row and role of an emission towards a role
pub data Stroke : Type 0 where
  Mark : (index role : ℕ) → Event → Stroke
  Arrow : (sent sender received receiver : ℕ) → Stroke
  Stub : (sent sender receiver : ℕ) → Stroke

-- the same message with the same key and values
abbrev pub same_instance : Instance → Instance → Bool
same_instance i j =
    i.message == j.message && (equal_values i.key j.key && equal_values i.values j.values)

-- the event is the emission of the instance
abbrev pub is_emission_of : Instance → Event → Bool
is_emission_of i (Emit j) = same_instance j i
is_emission_of i (Receive j) = false

-- the event is the reception of the instance
abbrev pub is_reception_of : Instance → Event → Bool
is_reception_of i (Emit j) = false
is_reception_of i (Receive j) = same_instance j i

-- the arrow of a message to the reception at the index, if there is an emission
abbrev pub arrow_from : Message → ℕ → Option ℕ → List Stroke
arrow_from m index None = []
arrow_from m index (Some sent) = Arrow sent m.sender index m.receiver ∷ []

-- the stub of a message that is emitted at the index, unless it is received
abbrev pub stub_from : Message → ℕ → Bool → List Stroke
stub_from m index received = if received then [] else Stub index m.sender m.receiver ∷ []

-- what leads to a reception, or from an emission
abbrev pub line_at : Expanded → List Event → ℕ → Event → List Stroke
line_at x run index (Emit i) =
    stub_from (message_of x i.message) index (list_any (is_reception_of i) run)
line_at x run index (Receive i) =
    arrow_from (message_of x i.message) index (position (is_emission_of i) run)

-- that, and the mark
abbrev pub strokes_at : Expanded → List Event → ℕ × Event → List Stroke
strokes_at x run (index, event) =
    line_at x run index event ++ Mark index (role_of x event) event ∷ []

-- the strokes of a run, event by event
abbrev pub strokes : Expanded → List Event → List Stroke
strokes x run = flat_map (strokes_at x run) (enumerate_from 0 run)
