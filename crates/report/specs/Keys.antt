-- The keys of a run's enactments.
use Rattle.std.specs.Prelude.{List, [], ◌∷◌, not}
use Rattle.std.specs.List.{filter}
use Rattle.bspl_types.specs.declared.event.Event.{Event}
use Rattle.bspl_types.specs.declared.expanded.Expanded.{Expanded}
use Rattle.bspl_types.specs.declared.value.Value.{Value}
use Rattle.bspl_types.specs.History.{instance_of}
use Rattle.bspl_types.specs.Value.{equal_values}
use Rattle.witness_replay.specs.Witness.{key_of_ones}

-- the keys of the events, each once, in order of first event
abbrev pub keys_of : List Event → List (List Value)
keys_of [] = []
keys_of (event ∷ run) =
    (instance_of event).key ∷
    filter (λ key. not (equal_values (instance_of event).key key)) (keys_of run)

-- the keys that are reported: those of the events, or the key of all ones if there is no event
abbrev pub reported_keys : Expanded → List Event → List (List Value)
reported_keys x [] = key_of_ones x ∷ []
reported_keys x (event ∷ run) = keys_of (event ∷ run)
