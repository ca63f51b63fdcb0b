-- What `emit` answers, and how it ends.
use Rattle.std.specs.Prelude.{◌≡◌, ℕ, true, false, List, Result, Ok, Err}
use Rattle.stamped_history.specs.declared.entry.Entry.{Entry}
use Rattle.bspl_types.specs.declared.envelope.Stamped.{Stamped}
use Rattle.bspl_types.specs.declared.event.Event.TheVariants.{Emit}
use Rattle.bspl_types.specs.declared.value.Value.{Value}
use Rattle.bspl_types.specs.Expansion.{message_of}
use Rattle.bspl_types.specs.Knowledge.{CanEmit}
use Rattle.role_knowledge.specs.Blocked.{IsFirstBlock}
use Rattle.local_store.specs.Emission.{IsEmission}
use Rattle.local_store.specs.State.{acts_of}
use Rattle.durable_store.specs.declared.refusals.EmitRefusal.{EmitRefusal}
use Rattle.durable_store.specs.declared.refusals.EmitRefusal.TheVariants.{Spent, Full, Blocked}
use Rattle.durable_store.specs.declared.refusals.EmitRefusal.TheVariants.{DiskFault, NoMemory}
use Rattle.durable_store.specs.Calls.{HasRoom, Outcome, Unchanged, Acknowledged, Unacknowledged}
use Rattle.durable_store.specs.State.{DurableState}

-- the entry of an emission
abbrev pub emission_entry : Stamped → Entry
emission_entry m = record { event = Emit m.instance; stamp = m.stamp; number = m.number }

-- there is room for the emission, and what the role knows permits it
pub record MayWrite {D : Type 0} (s : DurableState D) (message : ℕ) (key : List Value)
    : Type 0 where
  pub room : HasRoom s
  pub can : CanEmit s.store.protocol (acts_of s.store) message key

-- the emission that the store would answer was not acknowledged
pub record EmissionIsCutOff {D : Type 0} (s : DurableState D) (message : ℕ) (key outs : List Value)
    (outcome : Outcome) : Type 0 where
  pub may : MayWrite s message key
  pub planned : Stamped
  pub emission : IsEmission s.store message key outs planned
  pub ends : outcome ≡ Unacknowledged (emission_entry planned)

-- what holds of the store if this is the answer, and how the call ends; memory runs out only if the
-- disk may lack it
abbrev pub IsEmitAnswer : {D : Type 0} → Type 0 → DurableState D → ℕ → List Value → List Value →
    Result Stamped EmitRefusal → Outcome → Type 0
IsEmitAnswer lacks s message key outs (Ok m) outcome =
    MayWrite s message key × IsEmission s.store message key outs m ×
    (outcome ≡ Acknowledged (emission_entry m))
IsEmitAnswer lacks s message key outs (Err Spent) outcome =
    (s.spent ≡ true) × (outcome ≡ Unchanged)
IsEmitAnswer lacks s message key outs (Err Full) outcome =
    (s.spent ≡ false) × (s.store.spare ≡ 0) × (outcome ≡ Unchanged)
IsEmitAnswer lacks s message key outs (Err (Blocked block)) outcome =
    HasRoom s × IsFirstBlock s.store.protocol (acts_of s.store) key
    (message_of s.store.protocol message).carried block × (outcome ≡ Unchanged)
IsEmitAnswer lacks s message key outs (Err DiskFault) outcome =
    EmissionIsCutOff s message key outs outcome
IsEmitAnswer lacks s message key outs (Err NoMemory) outcome =
    lacks × EmissionIsCutOff s message key outs outcome
