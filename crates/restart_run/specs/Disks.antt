-- What is asked of the disk of a role, how it may have failed, and what it keeps in the end.
use Rattle.std.specs.Prelude.{◌≡◌, ℕ, ◌*◌, ◌<◌, ◌≤◌, ◌⊎◌, true, nat_lt}
use Rattle.std.specs.Prelude.{List, length, slice_get, Some}
use Rattle.std.specs.List.{All, filter}
use Rattle.adapter.specs.Pending.{messages_of}
use Rattle.agent_scripts.specs.Job.{Job}
use Rattle.durable_store.specs.History.{IsHistory}
use Rattle.role_journal.specs.Counts.{Counts, no_faults}
use Rattle.role_journal.specs.Crash.{Leaves}
use Rattle.role_journal.specs.Journal.{IsJournal}
use Rattle.stamped_history.specs.declared.entry.Entry.{Entry}
use Rattle.stamped_history.specs.Explained.{history_at}
use Rattle.restart_run.specs.declared.refusal.RestartRefusal.{RestartRefusal}
use Rattle.restart_run.specs.declared.refusal.RestartRefusal.TheVariants.{DiskFault, NoMemory}

-- the bytes of a place for each workload key and each message that the role sends or receives
abbrev pub bytes_for : Job → ℕ → ℕ
bytes_for job role = 562 * (length job.script.keys * length (messages_of job.protocol role))

-- the disk never failed; all of its bytes are 0 and synced, and there are at least so many
pub record IsBlank {D : Type 0} (seen : D → List ℕ) (may_leave : D → List ℕ → Type 0)
    (counts : D → Counts) (size : ℕ) (disk : D) : Type 0 where
  pub no_fault : (counts disk).faults ≡ 0
  pub none_late : (counts disk).late ≡ 0
  pub zeros : All (λ byte. byte ≡ 0) (seen disk)
  pub settled : Leaves (seen disk) (may_leave disk)
  pub large : size ≤ length (seen disk)

-- each disk is such, and has a place for each event that its role can have
abbrev pub AreBlank : {D : Type 0} → (D → List ℕ) → (D → List ℕ → Type 0) → (D → Counts) → Job →
    List D → Type 0
AreBlank {D} seen may_leave counts job disks =
    (role : ℕ) (disk : D) → slice_get disks role ≡ Some disk →
    IsBlank seen may_leave counts (bytes_for job role) disk

-- one call failed, and the disk was restarted after that
abbrev pub one_fault : Counts
one_fault = record { faults = 1; late = 0; restarted = true }

-- each image that a crash may leave of the disk is a journal of these entries; no call of it
-- failed, or one did, and it was restarted
pub record IsWrittenDisk {D : Type 0} (may_leave : D → List ℕ → Type 0) (counts : D → Counts)
    (entries : List Entry) (disk : D) : Type 0 where
  pub journal : (image : List ℕ) → may_leave disk image → IsJournal entries image
  pub once : (counts disk ≡ no_faults) ⊎ (counts disk ≡ one_fault)

-- there is one disk for each history, and it is written with that history
pub record AreWritten {D : Type 0} (may_leave : D → List ℕ → Type 0) (counts : D → Counts)
    (histories : List (List Entry)) (disks : List D) : Type 0 where
  pub count : length disks ≡ length histories
  pub each : (role : ℕ) (disk : D) → slice_get disks role ≡ Some disk →
      IsWrittenDisk may_leave counts (history_at histories role) disk

-- the disks that failed
abbrev pub faulty : {D : Type 0} → (D → Counts) → List D → List D
faulty counts disks = filter (λ disk. nat_lt 0 (counts disk).faults) disks

-- a history of the role under the workload keys
abbrev pub IsHistoryOf : Job → ℕ → List Entry → Type 0
IsHistoryOf job role entries = IsHistory job.protocol role job.script.keys entries

-- whatever a crash leaves of the disk is a journal of some history of the role
abbrev pub HoldsHistories : {D : Type 0} → (D → List ℕ → Type 0) → Job → ℕ → D → Type 0
HoldsHistories may_leave job role disk = (image : List ℕ) → may_leave disk image →
    (entries : List Entry) × (IsHistoryOf job role entries × IsJournal entries image)

-- the disk holds a history of the role, and failed after it was restarted
pub record IsLateDisk {D : Type 0} (may_leave : D → List ℕ → Type 0) (counts : D → Counts)
    (job : Job) (role : ℕ) (disk : D) : Type 0 where
  pub histories : HoldsHistories may_leave job role disk
  pub late : 0 < (counts disk).late

-- a fault is that of the named role's disk
abbrev pub IsRefused : {D : Type 0} → (D → List ℕ → Type 0) → (D → Counts) → Job →
    RestartRefusal → Type 0
IsRefused {D} may_leave counts job (DiskFault role) =
    (role < length job.protocol.roles) × ((disk : D) × IsLateDisk may_leave counts job role disk)
IsRefused may_leave counts job NoMemory = Unit {0}
