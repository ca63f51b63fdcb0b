-- What the steps at a role's state do, and what one holding of its lock does.
use Rattle.std.specs.Prelude.{◌≡◌, ◌⊎◌, ℕ, ◌≤◌, List, ◌++◌, length, Option}
use Rattle.std.specs.Prelude.{Result, OnErr, OnOk}
use Rattle.rand_pcg.specs.Lcg.{Lcg}
use Rattle.bspl_types.specs.declared.envelope.Envelope.{Envelope}
use Rattle.agent_scripts.specs.Job.{Job}
use Rattle.local_store.specs.declared.receipt.Receipt.{Receipt}
use Rattle.reorder_net.specs.Pass.{BoxId}
use Rattle.adapter.specs.Next.{IsWorkload}
use Rattle.adapter.specs.State.{IsStateKept, StateView, taken_of}
use Rattle.adapter.specs.Steps.{IsNextEnvelope, IsTaking, after_emission, after_pick}
use Rattle.adapter.specs.Worker.{IsSameThread, WorkerState}

-- the state is kept for the job, its role and the mailboxes; the number is one of a workload key
pub record IsStateAtWork (job : Job) (boxes : List BoxId) (s : StateView) (n : ℕ) : Type 0 where
  pub kept : IsStateKept job s.desk.store.role boxes s
  pub number : IsWorkload job n

-- some envelopes, at most as many, come out of the role's mailbox and stand last in its inbox
pub record MovesIn (most : ℕ) (old new : StateView) : Type 0 where
  pub moved : List Envelope
  pub few : length moved ≤ most
  pub taken : taken_of new ≡ taken_of old ++ moved
  pub envelopes : new.desk.inbox.envelopes ≡ old.desk.inbox.envelopes ++ moved
  pub store : new.desk.store ≡ old.desk.store

-- the desk takes what the generator picks, or nothing, with that answer; the passes stay
pub record TakesOne (g : Lcg) (old : StateView) (receipt : Option Receipt) (h : Lcg)
    (new : StateView) : Type 0 where
  pub taking : IsTaking g old.desk receipt new.desk
  pub word : h ≡ after_pick g old.desk.inbox
  pub passes : new.passes ≡ old.passes

-- the desk emits its next envelope at the number, or none; nothing comes out of the mailbox
pub record EmitsNext (job : Job) (n : ℕ) (old : StateView) (envelope : Option Envelope)
    (new : StateView) : Type 0 where
  pub next : IsNextEnvelope job old.desk.store n envelope
  pub desk : new.desk ≡ after_emission old.desk envelope
  pub taken : taken_of new ≡ taken_of old

-- the worker's turn: envelopes are moved in, then it takes one, then one is emitted
pub record IsRoleTurn (job : Job) (n : ℕ) (worker : WorkerState) (old : StateView)
    (next : WorkerState) (new : StateView) : Type 0 where
  pub same : IsSameThread worker next
  pub filled : StateView
  pub moves : MovesIn 65536 old filled
  pub receipt : Option Receipt
  pub received : StateView
  pub takes : TakesOne worker.generator filled receipt next.generator received
  pub envelope : Option Envelope
  pub emits : EmitsNext job n received envelope new

-- envelopes are moved in, then the worker takes one, and nothing is emitted
pub record IsUnposted (worker : WorkerState) (old : StateView) (next : WorkerState)
    (new : StateView) : Type 0 where
  pub same : IsSameThread worker next
  pub filled : StateView
  pub moves : MovesIn 65536 old filled
  pub receipt : Option Receipt
  pub takes : TakesOne worker.generator filled receipt next.generator new

-- a turn that ran out of memory, as it moved envelopes in or before it emitted
abbrev pub IsCutOff : WorkerState → StateView → WorkerState → StateView → Type 0
IsCutOff worker old next new =
    (MovesIn 65536 old new × (next ≡ worker)) ⊎ IsUnposted worker old next new

-- what one holding of the role's lock did: some kept state of the role had one turn of the worker
-- at the number, or one that ran out of memory, as the result says
pub record HasHadTurn {X E : Type 0} (job : Job) (role : ℕ) (boxes : List BoxId) (n : ℕ)
    (worker : WorkerState) (result : Result X E) (next : WorkerState) : Type 0 where
  pub old : StateView
  pub kept : IsStateKept job role boxes old
  pub new : StateView
  pub ok : OnOk result (IsRoleTurn job n worker old next new)
  pub err : OnErr result (IsCutOff worker old next new)
