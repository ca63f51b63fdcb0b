-- What `start` answers, and what it leaves of the disk.
use Rattle.std.specs.Prelude.{◌≡◌, ◌≢◌, ◌↔◌, ◌+◌, ◌≤◌, ℕ, false, List, length, Result, Ok, Err}
use Rattle.std.specs.List.{AllPairs, Contains}
use Rattle.bspl_types.specs.declared.expanded.Expanded.{Expanded}
use Rattle.bspl_types.specs.declared.value.Value.{Value}
use Rattle.stamped_history.specs.declared.entry.Entry.{Entry}
use Rattle.bspl_io.specs.declared.sink.Trouble.{Trouble}
use Rattle.bspl_io.specs.declared.sink.Trouble.TheVariants as troubles
use Rattle.role_journal.specs.Counts.{Counts, after_fault}
use Rattle.role_journal.specs.Crash.{LeavesNoMore, CrashLeavesOnly}
use Rattle.durable_store.specs.declared.refusals.StartRefusal.{StartRefusal}
use Rattle.durable_store.specs.declared.refusals.StartRefusal.TheVariants.{Alien, DiskFault}
use Rattle.durable_store.specs.declared.refusals.StartRefusal.TheVariants.{NoMemory}
use Rattle.durable_store.specs.Alien.{IsAlien, IsFirstAlien}
use Rattle.durable_store.specs.History.{IsHistory}
use Rattle.durable_store.specs.State.{DurableState, IsReady}

-- a failure is a fault, and out of memory stays out of memory
abbrev pub start_refusal : Trouble → StartRefusal
start_refusal troubles.Failed = DiskFault
start_refusal troubles.NoMemory = NoMemory

-- the disk that an answer of `start` hands back
abbrev pub disk_of : {D : Type 0} → Result (DurableState D) (StartRefusal × D) → D
disk_of (Ok s) = s.disk
disk_of (Err e) = e.1

-- how many calls a start makes of a disk with so many places, at most: it syncs, looks at each
-- gate, and reads the body of each entry that it gives back, or else of any place
abbrev pub start_calls : {D : Type 0} → ℕ → Result (DurableState D) (StartRefusal × D) → ℕ
start_calls count (Ok s) = 1 + count + length s.store.entries
start_calls count (Err e) = 1 + count + count

-- the disk holds what it held, after so many calls at most; a crash now, or at any moment since,
-- leaves nothing that it might not have left before
pub record IsKeptAsItWas {D : Type 0} (seen : D → List ℕ) (may_leave : D → List ℕ → Type 0)
    (clock : D → ℕ) (left_since : D → ℕ → List ℕ → Type 0) (calls : ℕ) (old new : D)
    : Type 0 where
  pub same : seen new ≡ seen old
  pub soon : clock new ≤ clock old + calls
  pub now : LeavesNoMore (may_leave old) (may_leave new)
  pub meanwhile : CrashLeavesOnly clock left_since old new (may_leave old)

-- exactly these keys are held; if none is named twice, in this order
pub record HoldsKeys (held keys : List (List Value)) : Type 0 where
  pub same : (key : List Value) → Contains held key ↔ Contains keys key
  pub in_order : AllPairs ◌≢◌ keys → held ≡ keys

-- a store of the role that holds these keys, with a history that the disk keeps and all of whose
-- open places it explains
pub record IsStarted {D : Type 0} (seen : D → List ℕ) (may_leave : D → List ℕ → Type 0)
    (counts : D → Counts) (x : Expanded) (role : ℕ) (keys : List (List Value))
    (s : DurableState D) : Type 0 where
  pub protocol_is : s.store.protocol ≡ x
  pub role_is : s.store.role ≡ role
  pub keys_are : HoldsKeys s.store.keys keys
  pub history : IsHistory x role keys s.store.entries
  pub unspent : s.spent ≡ false
  pub ready : IsReady seen may_leave counts s.store s.disk
  pub native : (place : ℕ) → ¬ IsAlien x role keys (seen s.disk) place

-- why a store was not started, from a disk with this image and these counts; what it counts now
abbrev pub IsStartRefusal : Expanded → ℕ → List (List Value) → List ℕ → Counts → Counts →
    StartRefusal → Type 0
IsStartRefusal x role keys image old new (Alien place) =
    IsFirstAlien x role keys image place × (new ≡ old)
IsStartRefusal x role keys image old new DiskFault = new ≡ after_fault old
IsStartRefusal x role keys image old new NoMemory = new ≡ old

-- what is answered on a disk with that image: a store that was started from it, or why none was
abbrev pub IsStartAnswer : {D : Type 0} → (D → List ℕ) → (D → List ℕ → Type 0) → (D → Counts) →
    Expanded → ℕ → List (List Value) → List ℕ → Result (DurableState D) (StartRefusal × D) →
    Type 0
IsStartAnswer seen may_leave counts x role keys image (Ok s) =
    IsStarted seen may_leave counts x role keys s × (seen s.disk ≡ image)
IsStartAnswer seen may_leave counts x role keys image (Err e) =
    (old : Counts) × IsStartRefusal x role keys image old (counts e.1) e.0

-- no place is found to be alien, and a store that is started has these entries
abbrev pub Stands : {D : Type 0} → List Entry → Result (DurableState D) (StartRefusal × D) →
    Type 0
Stands entries (Ok s) = s.store.entries ≡ entries
Stands entries (Err e) = (place : ℕ) → e.0 ≢ Alien place
