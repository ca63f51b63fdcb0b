-- The gates from a place on, and a row of calls that leave a disk as it was.
use Rattle.std.specs.Prelude.{◌≡◌, ℕ, ◌+◌, ◌<◌, ◌≤◌, ◌⊎◌, min, List, length, Result, Ok, Err}
use Rattle.local_store.specs.State.{StoreState}
use Rattle.role_journal.specs.Crash.{LeavesNoMore}
use Rattle.role_journal.specs.Journal.{IsOpen}
use Rattle.durable_store.specs.declared.refusals.StartRefusal.{StartRefusal}

-- the places from one on are closed, up to the other
abbrev pub AreClosed : List ℕ → ℕ → ℕ → Type 0
AreClosed image from end = (place : ℕ) → from ≤ place → place < end → ¬ IsOpen image place

-- the place is the first open one of them
pub record IsFirstOpen (image : List ℕ) (from end place : ℕ) : Type 0 where
  pub late : from ≤ place
  pub within : place < end
  pub opened : IsOpen image place
  pub before : AreClosed image from place

-- how many calls it takes at most to restore so many entries from the first of the places: each
-- body and each gate up to the first closed one; or else of all places
abbrev pub entry_calls : {T : Type 0} → ℕ → ℕ → Result T StartRefusal → ℕ
entry_calls count entries (Ok _) = entries + min (entries + 1) count
entry_calls count entries (Err _) = count + count

-- how many calls it takes at most to restore a store
abbrev pub restore_calls : ℕ → Result StoreState StartRefusal → ℕ
restore_calls count (Ok s) = 1 + count + length s.entries
restore_calls count (Err _) = 1 + count + count

-- the disk holds what it held; what a crash may leave now, or may have left at any moment
-- meanwhile, it might have left before
pub record IsLeftAlone {D : Type 0} (seen : D → List ℕ) (may_leave : D → List ℕ → Type 0)
    (clock : D → ℕ) (left_since : D → ℕ → List ℕ → Type 0) (old new : D) : Type 0 where
  pub same : seen new ≡ seen old
  pub crash : LeavesNoMore (may_leave old) (may_leave new)
  pub later : clock old ≤ clock new
  pub since : (t : ℕ) (c : List ℕ) → t ≤ clock old → left_since new t c →
      left_since old t c ⊎ may_leave old c
