-- What is kept of the first roles.
use Rattle.std.specs.Prelude.{◌≡◌, ℕ, ◌+◌, Bool, if◌then◌else◌}
use Rattle.std.specs.Prelude.{List, [], ◌∷◌, ◌++◌, length, slice_get, Some, take}
use Rattle.adapter.specs.Desk.{DeskState}
use Rattle.agent_scripts.specs.Job.{Job}
use Rattle.durable_store.specs.State.{DurableState}
use Rattle.role_journal.specs.Counts.{Counts}
use Rattle.stamped_history.specs.declared.entry.Entry.{Entry}
use Rattle.stamped_history.specs.Explained.{history_at}
use Rattle.world_run.specs.World.{BelongsTo, histories_of}
use Rattle.restart_run.specs.declared.roles.KeptRoles.{KeptRoles}
use Rattle.restart_run.specs.Disks.{IsWrittenDisk, faulty}

-- a desk of the role without envelopes
pub record IsEmptyDesk (job : Job) (role : ℕ) (d : DeskState) : Type 0 where
  pub belongs : BelongsTo job.protocol role d.store
  pub empty : d.inbox.envelopes ≡ []

-- one desk, one disk, and one restart more if there was one
pub record AddsRole {D : Type 0} (restarted : Bool) (s : DurableState D) (old new : KeptRoles D)
    : Type 0 where
  pub desk : DeskState
  pub store_is : desk.store ≡ s.store
  pub empty : desk.inbox.envelopes ≡ []
  pub desks : new.desks ≡ old.desks ++ desk ∷ []
  pub disks : new.disks ≡ old.disks ++ s.disk ∷ []
  pub restarts : new.restarts ≡ (if restarted then old.restarts + 1 else old.restarts)

-- a desk and a disk for each of the first roles, with these histories
pub record AreKeptTo {D : Type 0} (may_leave : D → List ℕ → Type 0) (counts : D → Counts)
    (job : Job) (histories : List (List Entry)) (count : ℕ) (kept : KeptRoles D) : Type 0 where
  pub desks_count : length kept.desks ≡ count
  pub disks_count : length kept.disks ≡ count
  pub desks_are : (role : ℕ) (d : DeskState) → slice_get kept.desks role ≡ Some d →
      IsEmptyDesk job role d
  pub histories_are : histories_of kept.desks ≡ take count histories
  pub written : (role : ℕ) (disk : D) → slice_get kept.disks role ≡ Some disk →
      IsWrittenDisk may_leave counts (history_at histories role) disk
  pub counted : kept.restarts ≡ length (faulty counts kept.disks)
