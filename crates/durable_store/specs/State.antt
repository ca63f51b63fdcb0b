-- What contracts see of a durable store, and what is true of each.
use Rattle.std.specs.Prelude.{◌≡◌, ℕ, ◌+◌, ◌<◌, Bool, true, false, List, [], ◌∷◌, ◌++◌, length}
use Rattle.stamped_history.specs.declared.entry.Entry.{Entry}
use Rattle.bspl_io.specs.Faults.{last_count}
use Rattle.local_store.specs.State.{StoreState}
use Rattle.role_journal.specs.Counts.{Counts}
use Rattle.role_journal.specs.Journal.{IsBeforeOrAfter, KeepsJournal, places}
use Rattle.durable_store.specs.History.{IsHistory}

-- the store of the acknowledged events; its disk; whether a call was cut short
pub record DurableState (D : Type 0) : Type 0 where
  pub store : StoreState
  pub disk : D
  pub spent : Bool

-- the entries are a history for the store's protocol, role and keys
abbrev pub IsHistoryFor : StoreState → List Entry → Type 0
IsHistoryFor s entries = IsHistory s.protocol s.role s.keys entries

-- the disk keeps exactly the store's entries, has a place for each spare event, and can count a
-- fault
pub record IsReady {D : Type 0} (seen : D → List ℕ) (may_leave : D → List ℕ → Type 0)
    (counts : D → Counts) (s : StoreState) (disk : D) : Type 0 where
  pub keeps : KeepsJournal seen may_leave disk s.entries
  pub room : length s.entries + s.spare ≡ places (length (seen disk))
  pub countable : (counts disk).faults < last_count

-- each image that a crash may leave is a journal of the store's entries, or of a history with one
-- entry more
pub record IsCutShort {D : Type 0} (may_leave : D → List ℕ → Type 0) (s : StoreState) (disk : D)
    : Type 0 where
  pub next : Entry
  pub may_come : IsHistoryFor s (s.entries ++ next ∷ [])
  pub leaves : (image : List ℕ) → may_leave disk image → IsBeforeOrAfter s.entries next image

-- the store has a history; it is ready until a call was cut short
pub record IsSoundStore {D : Type 0} (seen : D → List ℕ) (may_leave : D → List ℕ → Type 0)
    (counts : D → Counts) (s : DurableState D) : Type 0 where
  pub history : IsHistoryFor s.store s.store.entries
  pub ready : s.spent ≡ false → IsReady seen may_leave counts s.store s.disk
  pub cut_short : s.spent ≡ true → IsCutShort may_leave s.store s.disk
