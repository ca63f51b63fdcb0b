-- A role's store over its disk, while the role's history is kept there.
use Rattle.std.specs.Prelude.{◌≡◌, ℕ, ◌<◌, ◌≤◌, Bool, true, false, List, [], ◌∷◌, ◌++◌, length}
use Rattle.std.specs.List.{Contains}
use Rattle.agent_scripts.specs.Job.{Job}
use Rattle.bspl_types.specs.History.{instance_of}
use Rattle.durable_store.specs.History.{AreUnder}
use Rattle.durable_store.specs.State.{DurableState}
use Rattle.role_journal.specs.Counts.{Counts, after_fault, no_faults}
use Rattle.role_journal.specs.Journal.{IsBeforeOrAfter, IsJournal, places}
use Rattle.stamped_history.specs.declared.entry.Entry.{Entry}
use Rattle.stamped_history.specs.Local.{IsLocal}
use Rattle.restart_run.specs.Disks.{IsHistoryOf, IsLateDisk, one_fault}
use Rattle.bspl_io.specs.declared.sink.Trouble.{Trouble}
use Rattle.bspl_io.specs.declared.sink.Trouble.TheVariants.{Failed}
use Rattle.bspl_io.specs.declared.sink.Trouble.TheVariants as troubles
use Rattle.restart_run.specs.declared.refusal.RestartRefusal.{RestartRefusal}
use Rattle.restart_run.specs.declared.refusal.RestartRefusal.TheVariants.{DiskFault, NoMemory}

-- what a disk counts on which a role was restarted once, or never
abbrev pub counts_when : Bool → Counts
counts_when true = one_fault
counts_when false = no_faults

-- a store of the role with the workload keys, all of whose calls ended well since the last restart
pub record IsKeeper {D : Type 0} (counts : D → Counts) (job : Job) (role : ℕ) (restarted : Bool)
    (s : DurableState D) : Type 0 where
  pub protocol_is : s.store.protocol ≡ job.protocol
  pub role_is : s.store.role ≡ role
  pub keys_are : s.store.keys ≡ job.script.keys
  pub unspent : s.spent ≡ false
  pub counts_are : counts s.disk ≡ counts_when restarted

-- such a store with these entries, on a disk of that size
pub record HasKept {D : Type 0} (seen : D → List ℕ) (counts : D → Counts) (job : Job) (role : ℕ)
    (entries : List Entry) (size : ℕ) (restarted : Bool) (s : DurableState D) : Type 0 where
  pub keeper : IsKeeper counts job role restarted s
  pub entries_are : s.store.entries ≡ entries
  pub size_is : length (seen s.disk) ≡ size

-- the store was started on an image that a crash may leave of the disk, and has the entries of
-- whatever history that image is a journal of
pub record IsSecondStart {D : Type 0} (seen : D → List ℕ) (may_leave : D → List ℕ → Type 0)
    (counts : D → Counts) (job : Job) (role : ℕ) (disk : D) (s : DurableState D) : Type 0 where
  pub keeper : IsKeeper counts job role true s
  pub left : may_leave disk (seen s.disk)
  pub size : length (seen s.disk) ≡ length (seen disk)
  pub entries_are : (entries : List Entry) → IsHistoryOf job role entries →
      IsJournal entries (seen s.disk) → s.store.entries ≡ entries

-- the entry comes next in the role's history, and there is a place for it
pub record MayAppend {D : Type 0} (seen : D → List ℕ) (job : Job) (role : ℕ) (s : DurableState D)
    (e : Entry) : Type 0 where
  pub local : IsLocal job.protocol role (s.store.entries ++ e ∷ [])
  pub under : Contains job.script.keys (instance_of e.event).key
  pub room : length s.store.entries < places (length (seen s.disk))

-- a failure after a restart is a late fault of the role's disk
abbrev pub refusal_of : Trouble → ℕ → RestartRefusal
refusal_of Failed role = DiskFault role
refusal_of troubles.NoMemory role = NoMemory

-- the disk failed while the entry was appended, and may have kept it
pub record IsCutOff {D : Type 0} (seen : D → List ℕ) (may_leave : D → List ℕ → Type 0)
    (counts : D → Counts) (job : Job) (role : ℕ) (restarted : Bool) (s : DurableState D)
    (e : Entry) : Type 0 where
  pub protocol_is : s.store.protocol ≡ job.protocol
  pub role_is : s.store.role ≡ role
  pub keys_are : s.store.keys ≡ job.script.keys
  pub spent : s.spent ≡ true
  pub counts_are : counts s.disk ≡ after_fault (counts_when restarted)
  pub leaves : (image : List ℕ) → may_leave s.disk image →
      IsBeforeOrAfter s.store.entries e image
  pub before : IsHistoryOf job role s.store.entries
  pub after : IsHistoryOf job role (s.store.entries ++ e ∷ [])
  pub next : MayAppend seen job role s e

-- the same disk keeps its size, and each image that a crash may leave is a journal of the entries,
-- or of one more; these are histories of the role
pub record HoldsNext {D : Type 0} (seen : D → List ℕ) (may_leave : D → List ℕ → Type 0) (job : Job)
    (role : ℕ) (entries : List Entry) (e : Entry) (size : ℕ) (disk : D) : Type 0 where
  pub leaves : (image : List ℕ) → may_leave disk image → IsBeforeOrAfter entries e image
  pub before : IsHistoryOf job role entries
  pub after : IsHistoryOf job role (entries ++ e ∷ [])
  pub size_is : length (seen disk) ≡ size

-- the role's disk failed late, or memory ran out
abbrev pub IsRefusedAt : {D : Type 0} → (D → List ℕ → Type 0) → (D → Counts) → Job → ℕ → D →
    RestartRefusal → Type 0
IsRefusedAt may_leave counts job role disk (DiskFault named) =
    (named ≡ role) × IsLateDisk may_leave counts job role disk
IsRefusedAt may_leave counts job role disk NoMemory = Unit {0}

-- a local history of the role under the workload keys, with a place for each entry on a disk of
-- that size
pub record MayKeep (job : Job) (role : ℕ) (entries : List Entry) (size : ℕ) : Type 0 where
  pub local : IsLocal job.protocol role entries
  pub under : AreUnder job.script.keys entries
  pub few : length entries ≤ places size
