-- What contracts see of a store, and how its calls change it.
use Rattle.std.specs.Prelude.{◌≡◌, ℕ, ◌-◌, ◌<◌, List, [], ◌∷◌, ◌++◌, length, map, slice_index_or}
use Rattle.std.specs.List.{Contains}
use Rattle.bspl_types.specs.declared.event.Event.{Event}
use Rattle.bspl_types.specs.declared.expanded.Expanded.{Expanded}
use Rattle.bspl_types.specs.declared.value.Value.{Value}
use Rattle.stamped_history.specs.declared.entry.Entry.{Entry}
use Rattle.stamped_history.specs.Entries.{events_of}

-- the keys that are held, in the order of adding; the role's stamped history; how many events it
-- can still take without memory
pub record StoreState : Type 0 where
  pub protocol : Expanded
  pub role : ℕ
  pub keys : List (List Value)
  pub entries : List Entry
  pub spare : ℕ

-- the role's history, without stamps
abbrev pub acts_of : StoreState → List Event
acts_of s = events_of s.entries

-- one entry more, in a place that was spare
abbrev pub with_entry : StoreState → Event → ℕ → ℕ → StoreState
with_entry s event stamp number = record s {
  entries = s.entries ++ record { event = event; stamp = stamp; number = number } ∷ [];
  spare = s.spare - 1;
}

-- the key is held afterwards, as the last one if it was not held, and all else stays
pub record AddsKey (old : StoreState) (key : List Value) (new : StoreState) : Type 0 where
  pub again : Contains old.keys key → new ≡ old
  pub first : ¬ Contains old.keys key → new ≡ record old { keys = old.keys ++ key ∷ [] }

-- the event and the stamp of each entry
abbrev pub stamped_events : StoreState → List (Event × ℕ)
stamped_events s = map (λ e. (e.event, e.stamp)) s.entries

-- the number of each entry
abbrev pub numbers : StoreState → List ℕ
numbers s = map (λ e. e.number) s.entries

-- a store without keys and events
abbrev pub new_store : Expanded → ℕ → StoreState
new_store x role = record { protocol = x; role = role; keys = []; entries = []; spare = 0 }

-- the held key at the index
abbrev pub key_at : StoreState → ℕ → List Value
key_at s row = slice_index_or s.keys row []

-- the row is that of a held key, and the message one of the protocol
pub record AreIndices (s : StoreState) (row message : ℕ) : Type 0 where
  pub row_within : row < length s.keys
  pub message_within : message < length s.protocol.messages
