-- Which envelopes are undelivered, and what posting them changes.
use Rattle.std.specs.Prelude.{◌≡◌, ℕ, ◌<◌, List, length, slice_get, Some}
use Rattle.bspl_types.specs.declared.envelope.Envelope.{Envelope}
use Rattle.bspl_types.specs.declared.event.Event.TheVariants.{Emit}
use Rattle.bspl_types.specs.declared.event.Instance.{Instance}
use Rattle.bspl_types.specs.Expansion.{message_of}
use Rattle.adapter.specs.Desk.{DeskState}
use Rattle.adapter.specs.Kept.{IsFor}
use Rattle.agent_scripts.specs.Job.{Job}
use Rattle.stamped_history.specs.declared.entry.Entry.{Entry}
use Rattle.stamped_history.specs.Explained.{history_at}
use Rattle.world_run.specs.Renewal.{IsUndelivered}
use Rattle.world_run.specs.Sent.{IsSent}
use Rattle.world_run.specs.World.{histories_of}
use Rattle.world_run.specs.inner.InProgress.{Arrives, AreSound, Survives}

-- the envelope is undelivered of that entry, was sent, and is for a desk that is there
pub record CanBePosted (job : Job) (desks : List DeskState) (entry : Entry) (e : Envelope)
    : Type 0 where
  pub undelivered : IsUndelivered job (histories_of desks) entry e
  pub sent : IsSent job.protocol (histories_of desks) e.message
  pub is_for : IsFor job e.to e
  pub within : e.to < length desks

-- if the entry is an emission that is not lost, it arrives at its receiver
abbrev pub EntryArrives : Job → List DeskState → Entry → Type 0
EntryArrives job desks entry = (i : Instance) (receiver : DeskState) →
    entry.event ≡ Emit i → Survives job i →
    slice_get desks (message_of job.protocol i.message).receiver ≡ Some receiver →
    Arrives receiver i

-- what the entry emits arrives, unless it is lost, and no envelope is undelivered of it
pub record OwesNothing (job : Job) (desks : List DeskState) (entry : Entry) : Type 0 where
  pub arrives : EntryArrives job desks entry
  pub nothing : (e : Envelope) → ¬ IsUndelivered job (histories_of desks) entry e

-- the entries at the first indices of the role's history arrive
abbrev pub ArriveUpTo : Job → List DeskState → ℕ → ℕ → Type 0
ArriveUpTo job desks role count = (k : ℕ) (e : Entry) → k < count →
    slice_get (history_at (histories_of desks) role) k ≡ Some e → EntryArrives job desks e

-- the desk has the other's store, and what arrived still does
pub record HasMore (old new : DeskState) : Type 0 where
  pub same : new.store ≡ old.store
  pub arrive : (i : Instance) → Arrives old i → Arrives new i

-- the desks are sound, and each has what it had, with more envelopes
pub record ArePosted (job : Job) (old new : List DeskState) : Type 0 where
  pub sound : AreSound job new
  pub histories : histories_of new ≡ histories_of old
  pub each : (role : ℕ) (d : DeskState) → slice_get new role ≡ Some d →
      (before : DeskState) × (slice_get old role ≡ Some before) × HasMore before d
