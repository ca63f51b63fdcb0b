-- In which order the agents of a world act, and from which generator.
use Rattle.std.specs.Prelude.{◌≡◌, ℕ, zero, suc, ◌+◌, List, length, slice_get, slice_set}
use Rattle.std.specs.Prelude.{Option, None, Some}
use Rattle.rand_core.specs.Pcg32Seed.{pcg32_seed}
use Rattle.rand_pcg.specs.Lcg.{Lcg}
use Rattle.rand_pcg.specs.Pcg.{pcg32_of_seed}
use Rattle.bspl_types.specs.declared.envelope.Envelope.{Envelope}
use Rattle.adapter.specs.Desk.{DeskState}
use Rattle.adapter.specs.Steps.{AcceptsEnvelope, IsNextEnvelope, IsTaking, after_emission, after_pick}
use Rattle.agent_scripts.specs.Job.{Job}
use Rattle.local_store.specs.declared.receipt.Receipt.{Receipt}

-- the desks, and the generator that picks envelopes
pub record PlayState : Type 0 where
  pub desks : List DeskState
  pub generator : Lcg

-- these desks with that generator
abbrev pub state : List DeskState → Lcg → PlayState
state desks generator = record { desks = desks; generator = generator }

-- the generator of the plan's seed
abbrev pub generator_of : Job → Lcg
generator_of job = pcg32_of_seed (pcg32_seed 16 job.plan.seed)

-- the role's agent takes what the generator picks, if its inbox holds an envelope
pub record TakesPicked (role : ℕ) (old new : PlayState) : Type 0 where
  pub desk : DeskState
  pub at : slice_get old.desks role ≡ Some desk
  pub receipt : Option Receipt
  pub after : DeskState
  pub taking : IsTaking old.generator desk receipt after
  pub desks : new.desks ≡ slice_set old.desks role after
  pub word : new.generator ≡ after_pick old.generator desk.inbox

-- the envelope's receiver has it in its inbox
pub record Posts (old : List DeskState) (e : Envelope) (new : List DeskState) : Type 0 where
  pub receiver : DeskState
  pub at : slice_get old e.to ≡ Some receiver
  pub after : DeskState
  pub accepted : AcceptsEnvelope receiver e after
  pub desks : new ≡ slice_set old e.to after

-- the same of an envelope, if there is one
abbrev pub PostsAny : List DeskState → Option Envelope → List DeskState → Type 0
PostsAny old None new = new ≡ old
PostsAny old (Some e) new = Posts old e new

-- the role's agent emits its next message at the number, if it has one, and posts the envelope
pub record EmitsByAgent (job : Job) (role n : ℕ) (old new : List DeskState) : Type 0 where
  pub desk : DeskState
  pub at : slice_get old role ≡ Some desk
  pub envelope : Option Envelope
  pub next : IsNextEnvelope job desk.store n envelope
  pub after : DeskState
  pub emitted : after ≡ after_emission desk envelope
  pub posted : PostsAny (slice_set old role after) envelope new

-- the agent takes and then emits; only the taking draws a word of the generator
pub record IsTurn (job : Job) (role n : ℕ) (old new : PlayState) : Type 0 where
  pub middle : PlayState
  pub taken : TakesPicked role old middle
  pub emitted : EmitsByAgent job role n middle.desks new.desks
  pub word : new.generator ≡ middle.generator

-- the steps of the first numbers, from 0, one after another
abbrev pub AreSteps : {S : Type 0} → (ℕ → S → S → Type 0) → ℕ → S → S → Type 0
AreSteps {S} step zero old new = new ≡ old
AreSteps {S} step (suc k) old new =
    (middle : S) × AreSteps step k old middle × step k middle new

-- the role has a turn at each workload number
abbrev pub AreTurns : Job → ℕ → PlayState → PlayState → Type 0
AreTurns job role = AreSteps (λ k. IsTurn job role (k + 1)) (length job.script.keys)

-- each role has its turns
abbrev pub IsRound : Job → PlayState → PlayState → Type 0
IsRound job = AreSteps (AreTurns job) (length job.protocol.roles)

-- some number of rounds
pub record IsPlay (job : Job) (old new : PlayState) : Type 0 where
  pub rounds : ℕ
  pub each : AreSteps (λ _. IsRound job) rounds old new
