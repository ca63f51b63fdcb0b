-- What the roles' stores keep of a world's histories, while these go to the disks by their stamps.
use Rattle.std.specs.Prelude.{◌≡◌, ◌≢◌, ℕ, ◌<◌, ◌≤◌, List, [], length, map, slice_get, take, None, Some}
use Rattle.agent_scripts.specs.Job.{Job}
use Rattle.durable_store.specs.State.{IsSoundStore}
use Rattle.role_journal.specs.Counts.{Counts}
use Rattle.stamped_history.specs.declared.entry.Entry.{Entry}
use Rattle.stamped_history.specs.Explained.{history_at}
use Rattle.restart_run.specs.declared.keeper.Keeper.{Keeper}
use Rattle.restart_run.specs.OneWorld.{held_after}
use Rattle.restart_run.specs.Steps.{AllHappen, AreFromSteps, Step, no_events}
use Rattle.restart_run.specs.Disks.{bytes_for}
use Rattle.restart_run.specs.inner.Keeping.{HasKept, IsKeeper, MayKeep}

-- the histories of the roles' stores
abbrev pub kept_histories : {D : Type 0} → List (Keeper D) → List (List Entry)
kept_histories keepers = map (λ k. k.store.store.entries) keepers

-- a sound store of the role, which has the first entries of the history, and a place for the others
pub record IsBehind {D : Type 0} (seen : D → List ℕ) (may_leave : D → List ℕ → Type 0)
    (counts : D → Counts) (job : Job) (role : ℕ) (entries : List Entry) (k : Keeper D)
    : Type 0 where
  pub keeper : IsKeeper counts job role k.restarted k.store
  pub sound : IsSoundStore seen may_leave counts k.store
  pub may : MayKeep job role entries (length (seen k.store.disk))
  pub first : k.store.store.entries ≡ take (length k.store.store.entries) entries

-- each role's store has the first entries of its history; what they hold comes from steps that may
-- happen, and nothing is pending
pub record AreBehind {D : Type 0} (seen : D → List ℕ) (may_leave : D → List ℕ → Type 0)
    (counts : D → Counts) (job : Job) (histories : List (List Entry)) (keepers : List (Keeper D))
    : Type 0 where
  pub count : length keepers ≡ length job.protocol.roles
  pub each : (role : ℕ) (k : Keeper D) → slice_get keepers role ≡ Some k →
      IsBehind seen may_leave counts job role (history_at histories role) k
  pub steps : List Step
  pub happen : AllHappen job.protocol (no_events job.protocol) steps
  pub held : held_after job.protocol steps ≡
      record { histories = kept_histories keepers; pending = λ _. None }

-- the entry that comes next at a role has the stamp or a higher one, and a higher one at each role
-- before this one
pub record AreNext {D : Type 0} (histories : List (List Entry)) (stamp from : ℕ)
    (keepers : List (Keeper D)) : Type 0 where
  pub least : (role : ℕ) (k : Keeper D) (e : Entry) → slice_get keepers role ≡ Some k →
      slice_get (history_at histories role) (length k.store.store.entries) ≡ Some e →
      stamp ≤ e.stamp
  pub past : (role : ℕ) (k : Keeper D) (e : Entry) → slice_get keepers role ≡ Some k →
      slice_get (history_at histories role) (length k.store.store.entries) ≡ Some e →
      role < from → stamp < e.stamp

-- all entries with lower stamps are kept, and those with the stamp of the roles before this one
pub record AreMidway {D : Type 0} (seen : D → List ℕ) (may_leave : D → List ℕ → Type 0)
    (counts : D → Counts) (job : Job) (histories : List (List Entry)) (stamp from : ℕ)
    (keepers : List (Keeper D)) : Type 0 where
  pub behind : AreBehind seen may_leave counts job histories keepers
  pub next : AreNext histories stamp from keepers

-- a sound store of the role without entries, on a disk with a place for each event of the role
pub record IsNewKeeper {D : Type 0} (seen : D → List ℕ) (may_leave : D → List ℕ → Type 0)
    (counts : D → Counts) (job : Job) (role : ℕ) (k : Keeper D) : Type 0 where
  pub kept : HasKept seen counts job role [] (length (seen k.store.disk)) k.restarted k.store
  pub sound : IsSoundStore seen may_leave counts k.store
  pub large : bytes_for job role ≤ length (seen k.store.disk)

-- there is one for each of the first roles
pub record AreNewKeepers {D : Type 0} (seen : D → List ℕ) (may_leave : D → List ℕ → Type 0)
    (counts : D → Counts) (job : Job) (count : ℕ) (keepers : List (Keeper D)) : Type 0 where
  pub count_is : length keepers ≡ count
  pub each : (role : ℕ) (k : Keeper D) → slice_get keepers role ≡ Some k →
      IsNewKeeper seen may_leave counts job role k

-- each role's store is sound and has its whole history, and these come from steps that may happen
pub record AreWhole {D : Type 0} (seen : D → List ℕ) (may_leave : D → List ℕ → Type 0)
    (counts : D → Counts) (job : Job) (histories : List (List Entry)) (keepers : List (Keeper D))
    : Type 0 where
  pub keeper : (role : ℕ) (k : Keeper D) → slice_get keepers role ≡ Some k →
      IsKeeper counts job role k.restarted k.store
  pub sound : (role : ℕ) (k : Keeper D) → slice_get keepers role ≡ Some k →
      IsSoundStore seen may_leave counts k.store
  pub entries : (role : ℕ) (k : Keeper D) → slice_get keepers role ≡ Some k →
      k.store.store.entries ≡ history_at histories role
  pub from_steps : AreFromSteps job.protocol histories

-- the entry at the index has the stamp
pub record IsDue (entries : List Entry) (index stamp : ℕ) (e : Entry) : Type 0 where
  pub at : slice_get entries index ≡ Some e
  pub stamp_is : e.stamp ≡ stamp

-- there is none there, or it has another stamp
abbrev pub IsNotDue : List Entry → ℕ → ℕ → Type 0
IsNotDue entries index stamp = (e : Entry) → slice_get entries index ≡ Some e → e.stamp ≢ stamp
