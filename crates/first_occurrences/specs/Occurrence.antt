-- Where an event kind first occurs in a run under a key.
use Rattle.std.specs.Prelude.{ℕ, Bool, not, ◌==◌, ◌&&◌, ◌||◌, nat_lt, List, length}
use Rattle.std.specs.List.{list_any, take_while}
use Rattle.bspl_types.specs.declared.event.Event.{Event}
use Rattle.bspl_types.specs.declared.event.Event.TheVariants.{Emit, Receive}
use Rattle.bspl_types.specs.declared.value.Value.{Value}
use Rattle.bspl_types.specs.History.{instance_of}
use Rattle.bspl_types.specs.Value.{equal_values}
use Rattle.clause_encoding.specs.Variables.{received, sent}

-- the kind of an event
abbrev pub kind_of : Event → ℕ
kind_of (Emit i) = sent i.message
kind_of (Receive i) = received i.message

-- the event is under the key, and of that kind
abbrev pub is_of_kind : List Value → ℕ → Event → Bool
is_of_kind key kind e = equal_values (instance_of e).key key && kind_of e == kind

-- some event under the key is of the kind
abbrev pub is_occurring : List Event → List Value → ℕ → Bool
is_occurring run key kind = list_any (is_of_kind key kind) run

-- how many events come before the first of the kind: all if there is none
abbrev pub first_position : List Event → List Value → ℕ → ℕ
first_position run key kind = length (take_while (λ e. not (is_of_kind key kind e)) run)

-- kind `i` first occurs before kind `j`; those that never occur come last, by their numbers
abbrev pub comes_first : List Event → List Value → ℕ → ℕ → Bool
comes_first run key i j =
    nat_lt (first_position run key i) (first_position run key j) ||
    (first_position run key i == first_position run key j && nat_lt i j)
