-- When a desk is kept for a job and a role.
use Rattle.std.specs.Prelude.{◌≡◌, ◌≢◌, ℕ, ◌<◌, false, length}
use Rattle.std.specs.List.{All, AllPairs, Contains}
use Rattle.bspl_types.specs.declared.envelope.Envelope.{Envelope}
use Rattle.bspl_types.specs.declared.event.Event.{Event}
use Rattle.bspl_types.specs.declared.event.Event.TheVariants.{Emit, Receive}
use Rattle.bspl_types.specs.Expansion.{message_of}
use Rattle.bspl_types.specs.Instance.{Fits}
use Rattle.agent_scripts.specs.Job.{Job}
use Rattle.local_store.specs.Consistent.{IsConsistent}
use Rattle.local_store.specs.State.{acts_of}
use Rattle.stamped_history.specs.Played.{Played}
use Rattle.stamped_history.specs.Rules.{IsNumber}
use Rattle.reorder_net.specs.Losses.{is_lost}
use Rattle.adapter.specs.Desk.{DeskState}
use Rattle.adapter.specs.Pending.{messages_of, pairs_of, pending}
use Rattle.adapter.specs.Rules.{rules_of}

-- the envelope has a message that fits, is for the role, is under a workload key and is not lost,
-- and it has at least one copy
pub record IsFor (job : Job) (role : ℕ) (e : Envelope) : Type 0 where
  pub fits : Fits job.protocol e.message.instance
  pub to_role : e.to ≡ role
  pub own : (message_of job.protocol e.message.instance.message).receiver ≡ role
  pub workload : Contains job.script.keys e.message.instance.key
  pub arrives : (n : ℕ) → IsNumber (rules_of job) n e.message.instance.key →
      is_lost job.plan e.message.instance.message n ≡ false
  pub some : 0 < e.copies

-- not both are emissions, or receipts, of one message under one key
abbrev pub AreDistinctEvents : Event → Event → Type 0
AreDistinctEvents (Emit i) (Emit j) = i.key ≡ j.key → i.message ≢ j.message
AreDistinctEvents (Receive i) (Receive j) = i.key ≡ j.key → i.message ≢ j.message
AreDistinctEvents (Emit _) (Receive _) = Unit {0}
AreDistinctEvents (Receive _) (Emit _) = Unit {0}

-- the store is one of the job's protocol and of the role, with a local history; each message has at
-- most one emission and one receipt under a key; all workload keys are held; there is room for more
-- events than there are pairs of workload key and message of the role without one; the role plays
-- by the rules, so each event is under a workload key and nothing lost is received; what the inbox
-- has is for the role
pub record IsKept (job : Job) (role : ℕ) (d : DeskState) : Type 0 where
  pub protocol_is : d.store.protocol ≡ job.protocol
  pub role_is : d.store.role ≡ role
  pub consistent : IsConsistent d.store
  pub once : AllPairs AreDistinctEvents (acts_of d.store)
  pub held : All (Contains d.store.keys) job.script.keys
  pub room : length (pending (acts_of d.store)
      (pairs_of job.script.keys (messages_of job.protocol role))) < d.store.spare
  pub played : Played job.protocol (rules_of job) (acts_of d.store)
  pub inbox : All (IsFor job role) d.inbox.envelopes
