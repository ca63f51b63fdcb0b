-- How a call of a durable store ends, and what a crash during it may leave.
use Rattle.std.specs.Prelude.{◌≡◌, ℕ, ◌<◌, true, false, List, [], ◌∷◌, ◌++◌, length}
use Rattle.std.specs.Prelude.{Result, Ok, Err}
use Rattle.bspl_io.specs.declared.sink.Trouble.{Trouble}
use Rattle.stamped_history.specs.declared.entry.Entry.{Entry}
use Rattle.local_store.specs.State.{with_entry}
use Rattle.role_journal.specs.Crash.{CrashLeavesOnly}
use Rattle.role_journal.specs.Journal.{HasSameTail, IsBeforeOrAfter, KeepsJournal}
use Rattle.durable_store.specs.State.{DurableState, IsHistoryFor}

-- no call was cut short, and there is a place for one event more
pub record HasRoom {D : Type 0} (s : DurableState D) : Type 0 where
  pub unspent : s.spent ≡ false
  pub spare : 0 < s.store.spare

-- how a call ended: without any call of the disk; with an event that it acknowledged; or cut short,
-- with an event that it did not acknowledge
pub data Outcome : Type 0 where
  Unchanged : Outcome
  Acknowledged : Entry → Outcome
  Unacknowledged : Entry → Outcome

-- an entry is acknowledged, unless there is an error
abbrev pub appended_as : {T : Type 0} → Result T Trouble → Entry → Outcome
appended_as (Ok _) e = Acknowledged e
appended_as (Err _) e = Unacknowledged e

-- the entry may come next, and a crash at any moment of the call leaves a journal of the store's
-- entries, or of this one more; the disk keeps its size, and what lies behind its last place
pub record WritesEntry {D : Type 0} (seen : D → List ℕ) (clock : D → ℕ)
    (left_since : D → ℕ → List ℕ → Type 0) (e : Entry) (old new : DurableState D) : Type 0 where
  pub room : HasRoom old
  pub may_come : IsHistoryFor old.store (old.store.entries ++ e ∷ [])
  pub crash :
      CrashLeavesOnly clock left_since old.disk new.disk (IsBeforeOrAfter old.store.entries e)
  pub tail : HasSameTail (seen old.disk) (seen new.disk)

-- the store has the entry as its last one, and each crash from now on leaves it
pub record HasWritten {D : Type 0} (seen : D → List ℕ) (may_leave : D → List ℕ → Type 0)
    (e : Entry) (old new : DurableState D) : Type 0 where
  pub store : new.store ≡ with_entry old.store e.event e.stamp e.number
  pub unspent : new.spent ≡ false
  pub keeps : KeepsJournal seen may_leave new.disk new.store.entries

-- the store is as it was, but spent
pub record BecomesSpent {D : Type 0} (old new : DurableState D) : Type 0 where
  pub store : new.store ≡ old.store
  pub spent : new.spent ≡ true

-- what a call that ends so does to the store and its disk
abbrev pub Ends : {D : Type 0} → (D → List ℕ) → (D → List ℕ → Type 0) → (D → ℕ) →
    (D → ℕ → List ℕ → Type 0) → Outcome → DurableState D → DurableState D → Type 0
Ends seen may_leave clock left_since Unchanged old new = new ≡ old
Ends seen may_leave clock left_since (Acknowledged e) old new =
    WritesEntry seen clock left_since e old new × HasWritten seen may_leave e old new
Ends seen may_leave clock left_since (Unacknowledged e) old new =
    WritesEntry seen clock left_since e old new × BecomesSpent old new

-- the call ends in one of the ways that its answer allows
pub record EndsWith {D : Type 0} (seen : D → List ℕ) (may_leave : D → List ℕ → Type 0)
    (clock : D → ℕ) (left_since : D → ℕ → List ℕ → Type 0) (Allows : Outcome → Type 0)
    (old new : DurableState D) : Type 0 where
  pub outcome : Outcome
  pub allowed : Allows outcome
  pub ends : Ends seen may_leave clock left_since outcome old new
