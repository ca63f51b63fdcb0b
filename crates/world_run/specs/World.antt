-- What contracts see of a world, its histories, and whose desks it has.
use Rattle.std.specs.Prelude.{◌≡◌, ℕ, List, ◌++◌, length, map, slice_get, Some}
use Rattle.bspl_types.specs.declared.event.Event.{Event}
use Rattle.bspl_types.specs.declared.expanded.Expanded.{Expanded}
use Rattle.bspl_types.specs.History.{history_of}
use Rattle.adapter.specs.Desk.{DeskState}
use Rattle.adapter.specs.Kept.{IsKept}
use Rattle.agent_scripts.specs.Job.{Job}
use Rattle.local_store.specs.State.{StoreState}
use Rattle.stamped_history.specs.declared.entry.Entry.{Entry}
use Rattle.stamped_history.specs.Entries.{events_of}
use Rattle.stamped_history.specs.Explained.{history_at}

-- the desks of all roles, in order of the roles; how many entries each store had when the threads
-- that played were joined, or 0 for each if none have
pub record WorldState : Type 0 where
  pub desks : List DeskState
  pub joined : List ℕ

-- the stamped histories of their stores
abbrev pub histories_of : List DeskState → List (List Entry)
histories_of desks = map (λ d. d.store.entries) desks

-- the store is one of the protocol and of the role
pub record BelongsTo (x : Expanded) (role : ℕ) (s : StoreState) : Type 0 where
  pub protocol_is : s.protocol ≡ x
  pub role_is : s.role ≡ role

-- there is one desk for each role of the protocol, at the role's index
pub record AreDesksOf (x : Expanded) (desks : List DeskState) : Type 0 where
  pub count : length desks ≡ length x.roles
  pub each : (role : ℕ) (d : DeskState) → slice_get desks role ≡ Some d →
      BelongsTo x role d.store

-- all stores are of one protocol, with one desk for each of its roles
pub record AreDesksOfOne (desks : List DeskState) : Type 0 where
  pub protocol : Expanded
  pub are : AreDesksOf protocol desks

-- there is one desk for each role of the job's protocol, and each is kept for the job and its role
pub record AreKept (job : Job) (desks : List DeskState) : Type 0 where
  pub count : length desks ≡ length job.protocol.roles
  pub each : (role : ℕ) (d : DeskState) → slice_get desks role ≡ Some d → IsKept job role d

-- each role's new history begins with its old one
abbrev pub HistoriesGrow : List (List Entry) → List (List Entry) → Type 0
HistoriesGrow old new =
    (role : ℕ) → (more : List Entry) × (history_at new role ≡ history_at old role ++ more)

-- each role's history in the run is that of its desk
abbrev pub HasHistories : Expanded → List DeskState → List Event → Type 0
HasHistories x desks run =
    (role : ℕ) → history_of x role run ≡ events_of (history_at (histories_of desks) role)
