-- Where the next event under a key is, and where an event comes first.
use Rattle.std.specs.Prelude.{◌≡◌, ◌≢◌, ℕ, ◌+◌, ◌-◌, ◌<◌, ◌≤◌, List, length, slice_get, slice_index_or}
use Rattle.std.specs.Prelude.{Some, unwrap_or}
use Rattle.std.specs.BTreeMap.{BTreeMap, get}
use Rattle.bspl_types.specs.declared.event.Event.{Event}
use Rattle.bspl_types.specs.declared.value.Value.{Value}
use Rattle.bspl_types.specs.History.{instance_of}
use Rattle.key_table.specs.EventOrder.{event_cmp}
use Rattle.key_table.specs.KeyOrder.{key_cmp}

-- the first position from one on with an event under the key, or else the length of the run
pub record IsNextUnder (run : List Event) (key : List Value) (from found : ℕ) : Type 0 where
  pub after : from ≤ found
  pub within : found ≤ length run
  pub skipped : (k : ℕ) (e : Event) → from ≤ k → k < found → slice_get run k ≡ Some e →
      (instance_of e).key ≢ key
  pub under : (e : Event) → slice_get run found ≡ Some e → (instance_of e).key ≡ key

-- the first position from one on with the event, or else the length of the run
pub record IsFirstFrom (run : List Event) (event : Event) (from found : ℕ) : Type 0 where
  pub within : found ≤ length run
  pub none_before : (k : ℕ) → from ≤ k → k < found → slice_get run k ≢ Some event
  pub there : found < length run → slice_get run found ≡ Some event

-- the map has the first position from one on of each event
abbrev pub HasFirstsFrom : List Event → ℕ → BTreeMap Event ℕ → Type 0
HasFirstsFrom run from acts =
    (event : Event) → IsFirstFrom run event from (unwrap_or (get event_cmp acts event) (length run))

-- of the events from a position on: the map has the first one of each key, and the list, backwards,
-- the one that follows each
pub record IsIndexFrom (run : List Event) (from : ℕ)
    (firsts : BTreeMap (List Value) ℕ) (following : List ℕ) : Type 0 where
  pub count : length following + from ≡ length run
  pub first : (key : List Value) →
      IsNextUnder run key from (unwrap_or (get key_cmp firsts key) (length run))
  pub next : (k : ℕ) (e : Event) → from ≤ k → slice_get run k ≡ Some e →
      IsNextUnder run (instance_of e).key (k + 1) (slice_index_or following (length run - 1 - k) 0)
