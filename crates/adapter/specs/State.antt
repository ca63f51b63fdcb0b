-- What contracts see of a role's state, and when it is kept.
use Rattle.std.specs.Prelude.{◌≡◌, ℕ, ◌+◌, ◌<◌, max, List, ◌∷◌, ◌++◌, length}
use Rattle.std.specs.List.{All, Contains}
use Rattle.bspl_types.specs.declared.envelope.Envelope.{Envelope}
use Rattle.bspl_types.specs.declared.event.Event.TheVariants.{Receive}
use Rattle.bspl_types.specs.declared.event.Instance.{Instance}
use Rattle.stamped_history.specs.declared.entry.Entry.{Entry}
use Rattle.stamped_history.specs.Entries.{last_stamp}
use Rattle.agent_scripts.specs.Job.{Job}
use Rattle.reorder_net.specs.declared.passes.RolePasses.{RolePasses}
use Rattle.reorder_net.specs.Mail.{IsPosted}
use Rattle.reorder_net.specs.Pass.{BoxId}
use Rattle.reorder_net.specs.Passes.{ArePasses}
use Rattle.adapter.specs.Desk.{DeskState}
use Rattle.adapter.specs.Kept.{IsKept}
use Rattle.adapter.specs.Posted.{posted_by}

-- a role's desk, and its passes to the mailboxes
pub record StateView : Type 0 where
  pub desk : DeskState
  pub passes : RolePasses

-- what the role has taken out of its mailbox
abbrev pub taken_of : StateView → List Envelope
taken_of s = s.passes.own.hold.taken

-- the receipt of the instance is that of a taken envelope's message: it has the message's number,
-- and a stamp one more than the greater of the message's and the one before the receipt
pub record IsReceiptOfTaken (taken : List Envelope) (before : List Entry) (i : Instance)
    (receipt : Entry) : Type 0 where
  pub envelope : Envelope
  pub among : Contains taken envelope
  pub instance_is : envelope.message.instance ≡ i
  pub number_is : receipt.number ≡ envelope.message.number
  pub stamped : receipt.stamp ≡ max (last_stamp before) envelope.message.stamp + 1

-- the envelope's message is that of a taken one
pub record HasTakenMessage (taken : List Envelope) (e : Envelope) : Type 0 where
  pub envelope : Envelope
  pub among : Contains taken envelope
  pub message_is : envelope.message ≡ e.message

-- each receipt in the store and each envelope in the inbox goes back to a taken one
pub record IsOfTaken (taken : List Envelope) (d : DeskState) : Type 0 where
  pub receipts : (before after : List Entry) (e : Entry) (i : Instance) →
      d.store.entries ≡ before ++ e ∷ after → e.event ≡ Receive i →
      IsReceiptOfTaken taken before i e
  pub inbox : All (HasTakenMessage taken) d.inbox.envelopes

-- the desk is kept for the job and the role; the passes are the role's to these mailboxes, one for
-- each role; what was put through them is what the history posted; what was taken was posted to the
-- role, and all that the desk received goes back to it
pub record IsStateKept (job : Job) (role : ℕ) (boxes : List BoxId) (s : StateView) : Type 0 where
  pub desk : IsKept job role s.desk
  pub known : role < length boxes
  pub roles : length boxes ≡ length job.protocol.roles
  pub passes : ArePasses boxes role (λ q. posted_by job role q s.desk.store.entries) (taken_of s)
      s.passes
  pub posted : All (λ e. IsPosted job e.from role e) (taken_of s)
  pub of_taken : IsOfTaken (taken_of s) s.desk
