-- The step of an agent: which message it emits, under which key, with which values of its own.
use Rattle.std.specs.Prelude.{◌≡◌, ℕ, ◌<◌, Some, slice_get}
use Rattle.bspl_types.specs.Knowledge.{CanEmit}
use Rattle.stamped_history.specs.Entries.{clock_limit, last_stamp}
use Rattle.agent_scripts.specs.Job.{Job}
use Rattle.agent_scripts.specs.Script.{message_values}
use Rattle.local_store.specs.Emission.{IsAttempt, IsPlannedAt}
use Rattle.local_store.specs.State.{StoreState, acts_of}
use Rattle.reorder_net.specs.Mail.{IsPosted}
use Rattle.adapter.specs.declared.step.Planned.{Planned}
use Rattle.adapter.specs.declared.step.Ready.{Ready}
use Rattle.adapter.specs.declared.step.Step.{Step}
use Rattle.adapter.specs.Next.{IsNext}
use Rattle.adapter.specs.Rules.{key_of}
use Rattle.adapter.specs.Steps.{IsPlanned}

-- the message is the next one of the role's order at the number, whose key has the row
pub record IsReady (job : Job) (s : StoreState) (n : ℕ) (r : Ready) : Type 0 where
  pub clock : last_stamp s.entries < clock_limit
  pub next : IsNext job s n (Some r.message)
  pub row_is : slice_get s.keys r.row ≡ Some (key_of job n)

-- the next message of the role's order at the number, under its key, with the script's values
pub record IsNextStep (job : Job) (s : StoreState) (n : ℕ) (t : Step) : Type 0 where
  pub clock : last_stamp s.entries < clock_limit
  pub next : IsNext job s n (Some t.message)
  pub key_is : t.key ≡ key_of job n
  pub row_is : slice_get s.keys t.row ≡ Some t.key
  pub outs_are : t.outs ≡ message_values job.protocol job.script t.message n

-- the store can emit the step's message
pub record IsPossible (s : StoreState) (t : Step) : Type 0 where
  pub attempt : IsAttempt s t.message t.key t.outs
  pub row_is : slice_get s.keys t.row ≡ Some t.key
  pub can : CanEmit s.protocol (acts_of s) t.message t.key

-- the envelope is the next one at the number; the store can emit it under the row's key, and with
-- copies it can be posted
pub record IsPlan (job : Job) (s : StoreState) (n : ℕ) (p : Planned) : Type 0 where
  pub next : IsPlanned job s n p.envelope
  pub possible : IsPlannedAt s p.row p.envelope.message
  pub mailed : 0 < p.envelope.copies → IsPosted job s.role p.envelope.to p.envelope
