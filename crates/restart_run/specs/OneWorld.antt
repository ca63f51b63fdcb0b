-- When the disks of all roles hold what one world holds.
use Rattle.std.specs.Prelude.{◌≡◌, ℕ, List, fold, map, slice_get, Option, None, Some}
use Rattle.bspl_types.specs.declared.expanded.Expanded.{Expanded}
use Rattle.role_journal.specs.Journal.{IsBeforeOrAfter, IsJournal}
use Rattle.stamped_history.specs.declared.entry.Entry.{Entry}
use Rattle.stamped_history.specs.Explained.{history_at}
use Rattle.restart_run.specs.declared.keeper.Keeper.{Keeper}
use Rattle.restart_run.specs.Steps.{AllHappen, Held, Step, after_step, no_events}

-- the disks of the roles' stores
abbrev pub disks_of : {D : Type 0} → List (Keeper D) → List D
disks_of keepers = map (λ k. k.store.disk) keepers

-- the image is a journal of the acknowledged entries, perhaps followed by the pending one
abbrev pub IsJournalOf : List Entry → Option Entry → List ℕ → Type 0
IsJournalOf entries None image = IsJournal entries image
IsJournalOf entries (Some e) image = IsBeforeOrAfter entries e image

-- what the roles hold after these steps
abbrev pub held_after : Expanded → List Step → Held
held_after x steps = fold after_step (no_events x) steps

-- these steps may happen, and whatever a crash leaves of a role's disk is a journal of the events
-- that the role then holds
pub record HoldOneWorld {D : Type 0} (may_leave : D → List ℕ → Type 0) (x : Expanded)
    (disks : List D) : Type 0 where
  pub steps : List Step
  pub happen : AllHappen x (no_events x) steps
  pub each : (role : ℕ) (disk : D) (image : List ℕ) → slice_get disks role ≡ Some disk →
      may_leave disk image → IsJournalOf (history_at (held_after x steps).histories role)
      ((held_after x steps).pending role) image
