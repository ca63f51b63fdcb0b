-- What holds of the orders of a script, of what a desk emits next, and of kept states.
use Rattle.std.specs.Prelude.{◌≡◌, ◌≢◌, ℕ, ◌*◌, ◌<◌, ◌≤◌, List, [], length, slice_get, Option, Some}
use Rattle.std.specs.List.{AllPairs, Contains}
use Rattle.bspl_types.specs.declared.envelope.Envelope.{Envelope}
use Rattle.bspl_types.specs.declared.event.Instance.{Instance}
use Rattle.bspl_types.specs.declared.expanded.Expanded.{Expanded}
use Rattle.stamped_history.specs.declared.entry.Entry.{Entry}
use Rattle.stamped_history.specs.Explained.{history_at, IsExplained}
use Rattle.stamped_history.specs.Local.{IsLocal}
use Rattle.agent_scripts.specs.Fitting.{IsFittingScript}
use Rattle.agent_scripts.specs.Job.{Job}
use Rattle.agent_scripts.specs.Laws.{FitsProtocol}
use Rattle.agent_scripts.specs.Refusal.{IsScriptFor}
use Rattle.agent_scripts.specs.Script.{Script}
use Rattle.reorder_net.specs.Mail.{IsPosted}
use Rattle.reorder_net.specs.Pass.{BoxId}
use Rattle.reorder_net.specs.Passes.{AreFresh}
use Rattle.adapter.specs.Desk.{DeskState}
use Rattle.adapter.specs.Kept.{IsKept}
use Rattle.adapter.specs.Pending.{messages_of}
use Rattle.adapter.specs.Posted.{posted_by}
use Rattle.adapter.specs.State.{IsReceiptOfTaken, IsStateKept, StateView}
use Rattle.adapter.specs.Steps.{IsNextEnvelope}

-- the script is one for the protocol and fits it, its keys and rules fit each other, and no message
-- stands twice in an order
pub record IsOrderly (job : Job) : Type 0 where
  pub script_is : IsScriptFor job.protocol job.script
  pub fits : FitsProtocol job.protocol job.script
  pub fitting : IsFittingScript job.script.keys job.script.rules
  pub orders : (role : ℕ) (order : List ℕ) →
      slice_get job.script.orders role ≡ Some order → AllPairs ◌≢◌ order

-- no message stands twice in a role's order
abbrev pub OrdersAreDistinct : Type 0
OrdersAreDistinct = (x : Expanded) (script : Script) → IsScriptFor x script →
    (role : ℕ) (order : List ℕ) → slice_get script.orders role ≡ Some order → AllPairs ◌≢◌ order

-- what a kept desk emits next at a number is one envelope, or none
abbrev pub NextEnvelopesAreOne : Type 0
NextEnvelopesAreOne = (job : Job) (role : ℕ) (d : DeskState) (n : ℕ) (one other : Option Envelope) →
    IsKept job role d → IsNextEnvelope job d.store n one → IsNextEnvelope job d.store n other →
    one ≡ other

-- a kept desk has at most one event for each workload key and each message of its role
abbrev pub KeptEventsAreFew : Type 0
KeptEventsAreFew = (job : Job) (role : ℕ) (d : DeskState) → IsKept job role d →
    length d.store.entries ≤ length job.script.keys * length (messages_of job.protocol role)

-- the state is new: its desk is kept, without entries and envelopes; its passes are one to each
-- role's mailbox, and are unused
pub record IsNewState (job : Job) (role : ℕ) (boxes : List BoxId) (s : StateView) : Type 0 where
  pub desk : IsKept job role s.desk
  pub no_entries : s.desk.store.entries ≡ []
  pub no_envelopes : s.desk.inbox.envelopes ≡ []
  pub known : role < length boxes
  pub roles : length boxes ≡ length job.protocol.roles
  pub fresh : AreFresh boxes role s.passes

-- a new state is kept
abbrev pub NewStatesAreKept : Type 0
NewStatesAreKept = (job : Job) (role : ℕ) (boxes : List BoxId) (s : StateView) →
    IsNewState job role boxes s → IsStateKept job role boxes s

-- a receipt that goes back to a taken envelope is explained, if the envelope was posted to the
-- role, and is one of those that its sender's history posted there
abbrev pub TakenEnvelopesExplain : Type 0
TakenEnvelopesExplain = (job : Job) (histories : List (List Entry)) (sender role : ℕ)
    (taken : List Envelope) (before : List Entry) (i : Instance) (receipt : Entry) →
    IsLocal job.protocol sender (history_at histories sender) →
    (is : IsReceiptOfTaken taken before i receipt) → IsPosted job sender role is.envelope →
    Contains (posted_by job sender role (history_at histories sender)) is.envelope →
    IsExplained job.protocol histories before i receipt
