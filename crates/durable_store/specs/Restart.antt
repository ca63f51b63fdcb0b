-- What `restart` leaves of a store whose last call was cut short.
use Rattle.std.specs.Prelude.{◌≡◌, ℕ, true, List, length, Result, Ok, Err}
use Rattle.std.specs.List.{All}
use Rattle.bspl_io.specs.declared.sink.Trouble.{Trouble}
use Rattle.bspl_io.specs.declared.sink.Trouble.TheVariants.{Failed, NoMemory}
use Rattle.stamped_history.specs.declared.entry.Entry.{Entry}
use Rattle.role_journal.specs.Counts.{Counts, after_fault, after_restart}
use Rattle.role_journal.specs.Crash.{LeavesNoMore}
use Rattle.role_journal.specs.EntryBody.{IsEntry}
use Rattle.role_journal.specs.Journal.{IsJournal}
use Rattle.durable_store.specs.Start.{IsStarted}
use Rattle.durable_store.specs.State.{DurableState}

-- the disk has an image that a crash might have left, and the role's store was started on it again,
-- with whatever entries this image is a journal of
pub record IsStartedAgain {D : Type 0} (seen : D → List ℕ) (may_leave : D → List ℕ → Type 0)
    (counts : D → Counts) (old new : DurableState D) : Type 0 where
  pub started : IsStarted seen may_leave counts old.store.protocol old.store.role old.store.keys new
  pub keys_are : new.store.keys ≡ old.store.keys
  pub left : may_leave old.disk (seen new.disk)
  pub size : length (seen new.disk) ≡ length (seen old.disk)
  pub entries_are : (entries : List Entry) → All (IsEntry old.store.protocol) entries →
      IsJournal entries (seen new.disk) → new.store.entries ≡ entries

-- the store stays as it was, and spent; what a crash may leave, it might have left before
pub record StaysSpent {D : Type 0} (seen : D → List ℕ) (may_leave : D → List ℕ → Type 0)
    (old new : DurableState D) : Type 0 where
  pub store : new.store ≡ old.store
  pub spent : new.spent ≡ true
  pub less : LeavesNoMore (may_leave old.disk) (may_leave new.disk)
  pub size : length (seen new.disk) ≡ length (seen old.disk)

-- the restart is counted, and a failure after it
abbrev pub IsRestartCount : {T : Type 0} → Result T Trouble → Counts → Counts → Type 0
IsRestartCount (Ok _) old new = new ≡ after_restart old
IsRestartCount (Err Failed) old new = new ≡ after_fault (after_restart old)
IsRestartCount (Err NoMemory) old new = new ≡ after_restart old
