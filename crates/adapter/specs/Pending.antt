-- For which of its messages, under which workload keys, a role has no event yet.
use Rattle.std.specs.Prelude.{ℕ, Bool, not, ◌==◌, ◌&&◌, ◌||◌, List, map}
use Rattle.std.specs.List.{filter, flat_map, list_any, enumerate_from}
use Rattle.bspl_types.specs.declared.event.Event.{Event}
use Rattle.bspl_types.specs.declared.expanded.Expanded.{Expanded}
use Rattle.bspl_types.specs.declared.value.Value.{Value}
use Rattle.bspl_types.specs.History.{instance_of}
use Rattle.bspl_types.specs.Value.{equal_values}

-- the numbers of the messages that the role sends or receives
abbrev pub messages_of : Expanded → ℕ → List ℕ
messages_of x role =
    map (λ (m, _). m) (filter (λ (_, m). m.sender == role || m.receiver == role)
    (enumerate_from 0 x.messages))

-- each key with each of the messages
abbrev pub pairs_of : List (List Value) → List ℕ → List (List Value × ℕ)
pairs_of keys messages = flat_map (λ key. map (λ m. (key, m)) messages) keys

-- the event is one of the pair's message under the pair's key
abbrev pub is_of_pair : List Value × ℕ → Event → Bool
is_of_pair pair e =
    equal_values (instance_of e).key pair.0 && (instance_of e).message == pair.1

-- the pairs without an event
abbrev pub pending : List Event → List (List Value × ℕ) → List (List Value × ℕ)
pending history pairs = filter (λ pair. not (list_any (is_of_pair pair) history)) pairs
