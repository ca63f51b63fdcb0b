-- What is undelivered in a world, and what its inboxes hold once they are made anew.
use Rattle.std.specs.Prelude.{◌≡◌, ℕ, ◌<◌, ◌≤◌, List, [], length, map, slice_get}
use Rattle.std.specs.Prelude.{Option, None, Some}
use Rattle.std.specs.List.{All}
use Rattle.bspl_types.specs.declared.envelope.Envelope.{Envelope}
use Rattle.bspl_types.specs.declared.event.Event.TheVariants.{Emit}
use Rattle.bspl_types.specs.Expansion.{message_of}
use Rattle.adapter.specs.Desk.{DeskState}
use Rattle.adapter.specs.Rules.{rules_of}
use Rattle.agent_scripts.specs.Job.{Job}
use Rattle.stamped_history.specs.declared.entry.Entry.{Entry}
use Rattle.stamped_history.specs.Entries.{events_of}
use Rattle.stamped_history.specs.Explained.{history_at}
use Rattle.stamped_history.specs.Rules.{IsNumber}
use Rattle.reorder_net.specs.Losses.{copies_of}
use Rattle.world_run.specs.Course.{AreSteps, PostsAny}
use Rattle.world_run.specs.World.{histories_of}
use Rattle.enactment_model.specs.Liveness.{IsReceived}

-- as many copies as the plan gives to the message at the number of its key, at least one
pub record HasCopies (job : Job) (e : Envelope) : Type 0 where
  pub n : ℕ
  pub number : IsNumber (rules_of job) n e.message.instance.key
  pub copies : e.copies ≡ copies_of job.plan e.message.instance.message n
  pub some : 0 < e.copies

-- the entry's emission, from the message's sender to its receiver, which has not received the
-- message under the key; its copies are the plan's
pub record IsUndelivered (job : Job) (histories : List (List Entry)) (entry : Entry) (e : Envelope)
    : Type 0 where
  pub emitted : entry.event ≡ Emit e.message.instance
  pub stamp : e.message.stamp ≡ entry.stamp
  pub number : e.message.number ≡ entry.number
  pub from : e.from ≡ (message_of job.protocol e.message.instance.message).sender
  pub to : e.to ≡ (message_of job.protocol e.message.instance.message).receiver
  pub copies : HasCopies job e
  pub unreceived : ¬ IsReceived (events_of (history_at histories e.to))
      e.message.instance.key e.message.instance.message

-- the envelope that is undelivered of the entry; or none, if no envelope is
abbrev pub IsUndeliveredOf : Job → List (List Entry) → Entry → Option Envelope → Type 0
IsUndeliveredOf job histories entry None = (e : Envelope) → ¬ IsUndelivered job histories entry e
IsUndeliveredOf job histories entry (Some e) = IsUndelivered job histories entry e

-- what is undelivered of the entry at the index of the role's history is posted to its receiver
pub record Reposts (job : Job) (role k : ℕ) (old new : List DeskState) : Type 0 where
  pub entry : Entry
  pub at : slice_get (history_at (histories_of old) role) k ≡ Some entry
  pub envelope : Option Envelope
  pub undelivered : IsUndeliveredOf job (histories_of old) entry envelope
  pub posted : PostsAny old envelope new

-- so is that of each entry of the role, in order
abbrev pub RepostsAll : Job → ℕ → List DeskState → List DeskState → Type 0
RepostsAll job role old new =
    AreSteps (Reposts job role) (length (history_at (histories_of old) role)) old new

-- the desks with empty inboxes, which keep their room
pub record AreCleared (old new : List DeskState) : Type 0 where
  pub stores : map (λ d. d.store) new ≡ map (λ d. d.store) old
  pub empty : All (λ d. d.inbox.envelopes ≡ []) new
  pub room : (role : ℕ) (before d : DeskState) → slice_get old role ≡ Some before →
      slice_get new role ≡ Some d → before.inbox.spare ≤ d.inbox.spare

-- the stores are those of before; into the emptied inboxes goes, of each role in order, what is
-- undelivered, and nothing else
pub record AreRenewed (job : Job) (old new : List DeskState) : Type 0 where
  pub stores : map (λ d. d.store) new ≡ map (λ d. d.store) old
  pub emptied : List DeskState
  pub cleared : AreCleared old emptied
  pub posted : AreSteps (RepostsAll job) (length job.protocol.roles) emptied new
