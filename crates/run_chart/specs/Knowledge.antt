-- What a role knew before an event of its own, and what the event adds to it.
use Rattle.std.specs.Prelude.{ℕ, Bool, false, not, ◌&&◌, ◌||◌, List, [], ◌∷◌, ◌++◌}
use Rattle.std.specs.Prelude.{Option, codes, is_none}
use Rattle.std.specs.List.{filter, flat_map, list_any}
use Rattle.bspl_types.specs.declared.event.Event.{Event}
use Rattle.bspl_types.specs.declared.expanded.Expanded.{Expanded}
use Rattle.bspl_types.specs.declared.protocol.Carried.{Carried}
use Rattle.bspl_types.specs.declared.value.Value.{Value}
use Rattle.bspl_types.specs.Expansion.{param_name}
use Rattle.bspl_types.specs.History.{history_of, instance_of, role_of}
use Rattle.bspl_types.specs.Instance.{pairs}
use Rattle.bspl_types.specs.Value.{equal_values}
use Rattle.bspl_types.specs.ValueSpelling.{value_spelling}
use Rattle.enactment_model.specs.Projection.{run_under}
use Rattle.html.specs.Tables.{is_key}
use Rattle.role_knowledge.specs.inner.FirstValue.{first_value}

-- the value that a role's acts under a key make known first
abbrev pub value_known : Expanded → List Event → ℕ → List Value → ℕ → Option Value
value_known x events role key p =
    first_value (flat_map (λ e. pairs x (instance_of e)) (run_under key (history_of x role events)))
    p

-- the value of the parameter that the event's role knew from the events before it
abbrev pub value_before : Expanded → List Event → Event → ℕ → Option Value
value_before x before event p = value_known x before (role_of x event) (instance_of event).key p

-- the parameters of the event that its role did not know before it
abbrev pub news : Expanded → List Event → Event → List (Carried × Value)
news x before event =
    filter (λ (c, v). is_none (value_before x before event c.param)) (pairs x (instance_of event))

-- one of the events is of another enactment than that one
abbrev pub has_other_key : List Event → Event → Bool
has_other_key events event =
    list_any (λ e. not (equal_values (instance_of e).key (instance_of event).key)) events

-- the run has more than one enactment
abbrev pub has_enactments : List Event → Bool
has_enactments [] = false
has_enactments (event ∷ more) = has_other_key more event

-- the parameters that a label shows: those, and in such a run the key too
abbrev pub labelled : Expanded → List Event → List Event → Event → List (Carried × Value)
labelled x run before event =
    filter (λ (c, v). (has_enactments run && is_key x c.param) ||
    is_none (value_before x before event c.param)) (pairs x (instance_of event))

-- a parameter and its value, as `item=7`
abbrev pub field : Expanded → ℕ → Value → List ℕ
field x p v = param_name x p ++ codes "=" ++ value_spelling v
