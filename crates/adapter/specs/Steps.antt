-- What an agent's steps at a desk answer, and what they leave.
use Rattle.std.specs.Prelude.{◌≡◌, ℕ, ◌+◌, ◌==◌, ◌%◌, ◌<◌, ◌≤◌, ◌⊎◌, if◌then◌else◌, length}
use Rattle.std.specs.Prelude.{Option, None, Some, slice_get, IsSomeAnd}
use Rattle.rand_pcg.specs.Lcg.{Lcg}
use Rattle.rand_pcg.specs.Pcg.{pcg32}
use Rattle.bspl_types.specs.declared.envelope.Envelope.{Envelope}
use Rattle.bspl_types.specs.declared.envelope.Stamped.{Stamped}
use Rattle.bspl_types.specs.declared.event.Event.TheVariants.{Emit}
use Rattle.bspl_types.specs.Expansion.{message_of}
use Rattle.stamped_history.specs.Entries.{clock_limit, last_stamp}
use Rattle.agent_scripts.specs.Job.{Job}
use Rattle.agent_scripts.specs.Script.{message_values}
use Rattle.local_store.specs.declared.receipt.Receipt.{Receipt}
use Rattle.local_store.specs.declared.receipt.Receipt.TheVariants.{Fresh, Repeat, Differs}
use Rattle.local_store.specs.Emission.{IsEmission}
use Rattle.local_store.specs.Reception.{IsReceipt}
use Rattle.local_store.specs.State.{StoreState, acts_of, with_entry}
use Rattle.stamped_history.specs.Played.{IsPlayed}
use Rattle.reorder_net.specs.Inbox.{Inbox, after_spending, put_last}
use Rattle.reorder_net.specs.Losses.{copies_of}
use Rattle.adapter.specs.Desk.{DeskState}
use Rattle.adapter.specs.Next.{IsNext}
use Rattle.adapter.specs.Rules.{key_of, rules_of}

-- the envelope has the next message of the role's order, as the store emits it with the script's
-- values, which the agents' rules allow; it goes from the role to the message's receiver, in as
-- many copies as the plan gives
pub record IsPlanned (job : Job) (s : StoreState) (n : ℕ) (e : Envelope) : Type 0 where
  pub clock : last_stamp s.entries < clock_limit
  pub next : IsNext job s n (Some e.message.instance.message)
  pub emission : IsEmission s e.message.instance.message (key_of job n)
      (message_values job.protocol job.script e.message.instance.message n) e.message
  pub played : IsPlayed job.protocol (rules_of job) (acts_of s) (Emit e.message.instance)
  pub from : e.from ≡ s.role
  pub to : e.to ≡ (message_of job.protocol e.message.instance.message).receiver
  pub copies : e.copies ≡ copies_of job.plan e.message.instance.message n

-- the envelope that is emitted at the number; or none, if all messages of the role's order are
-- passed over, or the clock is at its last value
abbrev pub IsNextEnvelope : Job → StoreState → ℕ → Option Envelope → Type 0
IsNextEnvelope job s n None = IsNext job s n None ⊎ (last_stamp s.entries ≡ clock_limit)
IsNextEnvelope job s n (Some e) = IsPlanned job s n e

-- the store has the message's emission as one entry more, and all else stays
abbrev pub with_emission : DeskState → Stamped → DeskState
with_emission d m = record d { store = with_entry d.store (Emit m.instance) m.stamp m.number }

-- the same of the envelope's message; without an envelope all stays
abbrev pub after_emission : DeskState → Option Envelope → DeskState
after_emission d None = d
after_emission d (Some e) = with_emission d e.message

-- the index that the generator's next word gives: the word modulo the number of envelopes held
abbrev pub picked_index : Lcg → Inbox → ℕ
picked_index g inbox = (pcg32 g).0 % length inbox.envelopes

-- a word is drawn if an envelope is held
abbrev pub after_pick : Lcg → Inbox → Lcg
after_pick g inbox = if length inbox.envelopes == 0 then g else (pcg32 g).1

-- one copy of the envelope is gone, and there is as much room as before
pub record HasSpent (old : Inbox) (i : ℕ) (e : Envelope) (new : Inbox) : Type 0 where
  pub envelopes : new.envelopes ≡ after_spending old.envelopes i e
  pub spare : old.spare ≤ new.spare

-- one copy of the envelope is spent; but if it differs, the inbox stays
abbrev pub IsSpent : Receipt → Inbox → ℕ → Envelope → Inbox → Type 0
IsSpent Fresh old i e new = HasSpent old i e new
IsSpent Repeat old i e new = HasSpent old i e new
IsSpent (Differs _ _ _) old i e new = new ≡ old

-- the message of the envelope at the index is received by the store, with that answer
pub record IsTaken (i : ℕ) (old : DeskState) (r : Receipt) (new : DeskState) : Type 0 where
  pub envelope : Envelope
  pub picked : slice_get old.inbox.envelopes i ≡ Some envelope
  pub clock : last_stamp old.store.entries < clock_limit
  pub stamp : envelope.message.stamp < clock_limit
  pub receipt : IsReceipt old.store envelope.message r new.store
  pub spent : IsSpent r old.inbox i envelope new.inbox

-- nothing is held, or the clock or the picked message's stamp is at its last value
abbrev pub TakesNone : Lcg → DeskState → Type 0
TakesNone g d = (length d.inbox.envelopes ≡ 0) ⊎ ((last_stamp d.store.entries ≡ clock_limit) ⊎
    IsSomeAnd (slice_get d.inbox.envelopes (picked_index g d.inbox))
    (λ e. e.message.stamp ≡ clock_limit))

-- what the generator picks is taken; or all stays, if nothing can be
abbrev pub IsTaking : Lcg → DeskState → Option Receipt → DeskState → Type 0
IsTaking g old None new = TakesNone g old × (new ≡ old)
IsTaking g old (Some r) new = IsTaken (picked_index g old.inbox) old r new

-- the envelope comes last in the desk's inbox, unless it has no copies; it takes one place at most
pub record AcceptsEnvelope (old : DeskState) (e : Envelope) (new : DeskState) : Type 0 where
  pub store : new.store ≡ old.store
  pub envelopes : new.inbox.envelopes ≡ put_last old.inbox.envelopes e
  pub spare : old.inbox.spare ≤ new.inbox.spare + 1
