-- What is true of the desks of a world while their agents act.
use Rattle.std.specs.Prelude.{◌≡◌, ◌⊎◌, ℕ, ◌≤◌, false, List, length, map, slice_get, Some}
use Rattle.std.specs.List.{All, Contains, sum_by}
use Rattle.bspl_types.specs.declared.event.Event.{Event}
use Rattle.bspl_types.specs.declared.event.Event.TheVariants.{Emit, Receive}
use Rattle.bspl_types.specs.declared.event.Instance.{Instance}
use Rattle.bspl_types.specs.declared.expanded.Expanded.{Expanded}
use Rattle.bspl_types.specs.Expansion.{message_of}
use Rattle.enactment_model.specs.Legal.{IsLegalRun}
use Rattle.adapter.specs.Desk.{DeskState}
use Rattle.adapter.specs.Rules.{rules_of}
use Rattle.agent_scripts.specs.Job.{Job}
use Rattle.local_store.specs.State.{acts_of}
use Rattle.stamped_history.specs.Rules.{IsNumber}
use Rattle.reorder_net.specs.Losses.{is_lost}
use Rattle.stamped_history.specs.Explained.{AreExplained, history_at}
use Rattle.world_run.specs.Sent.{AreSent}
use Rattle.world_run.specs.World.{AreKept, HasHistories, HistoriesGrow, histories_of}

-- a legal run of exactly the desks' events; no stamp exceeds their number
pub record HaveRun (x : Expanded) (desks : List DeskState) : Type 0 where
  pub run : List Event
  pub legal : IsLegalRun x run
  pub kept : HasHistories x desks run
  pub stamps : (role : ℕ) →
      All (λ e. e.stamp ≤ length run) (history_at (histories_of desks) role)
  pub count : length run ≡ sum_by length (histories_of desks)

-- the desks are kept, their receipts are explained, what they hold was sent, and they have a run
pub record AreSound (job : Job) (desks : List DeskState) : Type 0 where
  pub kept : AreKept job desks
  pub explained : AreExplained job.protocol (histories_of desks)
  pub sent : AreSent job.protocol desks
  pub run : HaveRun job.protocol desks

-- the instance is received, or on its way
abbrev pub Arrives : DeskState → Instance → Type 0
Arrives d i = Contains (acts_of d.store) (Receive i) ⊎
    Contains (map (λ e. e.message.instance) d.inbox.envelopes) i

-- its message is not lost at the number of its key
abbrev pub Survives : Job → Instance → Type 0
Survives job i = (n : ℕ) → IsNumber (rules_of job) n i.key →
    is_lost job.plan i.message n ≡ false

-- each of the emissions arrives at its receiver, unless it is lost
abbrev pub AllArrive : Job → List DeskState → List Event → Type 0
AllArrive job desks events = (i : Instance) (receiver : DeskState) →
    Contains events (Emit i) → Survives job i →
    slice_get desks (message_of job.protocol i.message).receiver ≡ Some receiver →
    Arrives receiver i

-- so does each emission of each desk
abbrev pub AreWhole : Job → List DeskState → Type 0
AreWhole job desks = (role : ℕ) (d : DeskState) → slice_get desks role ≡ Some d →
    AllArrive job desks (acts_of d.store)

-- the desks are sound afterwards, and no history lost an entry
pub record Extend (job : Job) (old new : List DeskState) : Type 0 where
  pub sound : AreSound job new
  pub grow : HistoriesGrow (histories_of old) (histories_of new)
