-- What a world knows of the moment at which the threads that played it were joined.
use Rattle.std.specs.Prelude.{◌≡◌, ℕ, ◌≤◌, List, length, slice_get, Some}
use Rattle.adapter.specs.Desk.{DeskState}
use Rattle.agent_scripts.specs.Job.{Job}
use Rattle.stamped_history.specs.Explained.{AreExplained}
use Rattle.world_run.specs.Settling.{Continues, Settles}
use Rattle.world_run.specs.World.{AreKept, histories_of, WorldState}

-- each role's number is that of its store's entries
abbrev pub CountEntries : List DeskState → List ℕ → Type 0
CountEntries desks counts = (role : ℕ) (d : DeskState) → slice_get desks role ≡ Some d →
    slice_get counts role ≡ Some (length d.store.entries)

-- no role's number is greater than that of its store's entries
abbrev pub AreAtMost : List ℕ → List DeskState → Type 0
AreAtMost counts desks = (role count : ℕ) (d : DeskState) → slice_get desks role ≡ Some d →
    slice_get counts role ≡ Some count → count ≤ length d.store.entries

-- the world of desks as they come out of their locks: they are kept, all receipts are explained,
-- and the world has the number of each store's entries
pub record AreJoined (job : Job) (w : WorldState) : Type 0 where
  pub kept : AreKept job w.desks
  pub explained : AreExplained job.protocol (histories_of w.desks)
  pub counts : CountEntries w.desks w.joined

-- the world of joined desks that have settled; it keeps the numbers of the entries before that
pub record HaveSettled (job : Job) (w : WorldState) : Type 0 where
  pub desks : List DeskState
  pub joined : AreJoined job (record { desks = desks; joined = w.joined })
  pub settles : Settles job desks w.desks
  pub continues : Continues job desks w.desks
