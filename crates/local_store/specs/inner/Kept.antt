-- What a store keeps of its parts.
use Rattle.std.specs.Prelude.{◌≡◌, ◌↔◌, ℕ, ◌<◌, ◌≤◌, Option, None, Some, Bool, true, false}
use Rattle.std.specs.Prelude.{List, [], length, slice_get}
use Rattle.std.specs.List.{All, Contains}
use Rattle.bspl_types.specs.declared.event.Event.{Event}
use Rattle.bspl_types.specs.declared.expanded.Expanded.{Expanded}
use Rattle.bspl_types.specs.declared.value.Value.{Value}
use Rattle.bspl_types.specs.Admission.{IsAdmitted}
use Rattle.bspl_types.specs.History.{instance_of, role_of}
use Rattle.bspl_types.specs.Knowledge.{Knows}
use Rattle.stamped_history.specs.Entries.{events_of, last_stamp}
use Rattle.stamped_history.specs.Local.{IsLocal}
use Rattle.local_store.specs.declared.act.Kind.{Kind}
use Rattle.local_store.specs.Consistent.{AreKeys}
use Rattle.local_store.specs.State.{StoreState}
use Rattle.local_store.specs.inner.Acts.{ActsState, Rows, entries_in, event_as}
use Rattle.local_store.specs.inner.Grids.{cell_at, mark_at}

-- some event of the message is under the key
pub record HasEvent (history : List Event) (key : List Value) (m : ℕ) : Type 0 where
  pub event : Event
  pub among : Contains history event
  pub under : (instance_of event).key ≡ key
  pub message_is : (instance_of event).message ≡ m

-- the row of a key has the known values and the marks of its events; other rows are blank
pub record IsIndex (x : Expanded) (rows : Rows) (history : List Event) : Type 0 where
  pub knows : (row : ℕ) (key : List Value) (p : ℕ) (v : Value) →
      slice_get rows.keys row ≡ Some key → p < length x.params →
      (rows.cell row p ≡ Some v) ↔ (Knows x history key p v)
  pub happened : (row : ℕ) (key : List Value) (m : ℕ) →
      slice_get rows.keys row ≡ Some key → m < length x.messages →
      (rows.mark row m ≡ true) ↔ (HasEvent history key m)
  pub blank_cells : (row p : ℕ) → length rows.keys ≤ row → p < length x.params →
      rows.cell row p ≡ None
  pub blank_marks : (row m : ℕ) → length rows.keys ≤ row → m < length x.messages →
      rows.mark row m ≡ false

-- what contracts see of the parts of a store
abbrev pub rows_of : Expanded → List (List Value) → List (Option Value) → List Bool → Rows
rows_of x keys cells marks = record {
  keys = keys;
  cell = cell_at (length x.params) cells;
  mark = mark_at (length x.messages) marks;
}

abbrev pub state_of : Expanded → ℕ → Rows → ActsState → StoreState
state_of x role rows log = record {
  protocol = x;
  role = role;
  keys = rows.keys;
  entries = entries_in x rows log.acts;
  spare = log.spare;
}

-- what a store keeps of them
pub record IsKept (x : Expanded) (role : ℕ) (rows : Rows) (log : ActsState) (clock : ℕ)
    : Type 0 where
  pub admitted : IsAdmitted x
  pub known_role : role < length x.roles
  pub keys : AreKeys (length x.keys) rows.keys
  pub few_keys : length rows.keys ≤ 4294967295
  pub within : All (λ a. a.row < length rows.keys) log.acts
  pub index : IsIndex x rows (events_of (entries_in x rows log.acts))
  pub local : IsLocal x role (entries_in x rows log.acts)
  pub clock_is : clock ≡ last_stamp (entries_in x rows log.acts)

-- the protocol is admitted, and the entries are a local history under keys that are held
pub record IsSound (s : StoreState) : Type 0 where
  pub admitted : IsAdmitted s.protocol
  pub held : All (λ e. Contains s.keys (instance_of e.event).key) s.entries
  pub local : IsLocal s.protocol s.role s.entries

-- the grids have a row for each key at least
pub record HaveRows (x : Expanded) (keys : List (List Value)) (cell_width cell_rows : ℕ)
    (mark_width mark_rows : ℕ) : Type 0 where
  pub params : cell_width ≡ length x.params
  pub messages : mark_width ≡ length x.messages
  pub cells : length keys ≤ cell_rows
  pub marks : length keys ≤ mark_rows

-- the message exists, and the role sends it; or it exists, and the role receives it
pub record IsOfRole (x : Expanded) (role : ℕ) (kind : Kind) (m : ℕ) : Type 0 where
  pub known : m < length x.messages
  pub own : role_of x (event_as kind (record { message = m; key = []; values = [] })) ≡ role
