-- Which entries leave a store's history local. Each statement is the contract of a public function.
use Rattle.std.specs.Prelude.{◌≡◌, ℕ, ◌<◌, List, [], ◌∷◌, ◌++◌}
use Rattle.bspl_types.specs.declared.envelope.Stamped.{Stamped}
use Rattle.bspl_types.specs.declared.event.Event.TheVariants.{Emit, Receive}
use Rattle.bspl_types.specs.declared.value.Value.{Value}
use Rattle.bspl_types.specs.Expansion.{message_of}
use Rattle.bspl_types.specs.Instance.{Fits}
use Rattle.bspl_types.specs.Knowledge.{CanEmit}
use Rattle.stamped_history.specs.Entries.{last_stamp}
use Rattle.stamped_history.specs.Local.{IsLocal}
use Rattle.local_store.specs.Consistent.{IsConsistent}
use Rattle.local_store.specs.Emission.{IsEmission}
use Rattle.local_store.specs.Reception.{AllAgree, WasReceived}
use Rattle.local_store.specs.State.{StoreState, acts_of}

-- what the role can emit, as the store emits it
abbrev pub EmissionStaysLocal : Type 0
EmissionStaysLocal =
    (s : StoreState) (m : Stamped) (message : ℕ) (key outs : List Value) → IsConsistent s →
    CanEmit s.protocol (acts_of s) message key →
    (message_of s.protocol message).sender ≡ s.role → IsEmission s message key outs m →
    IsLocal s.protocol s.role (s.entries ++ record {
      event = Emit m.instance;
      stamp = m.stamp;
      number = m.number;
    } ∷ [])

-- a message that comes for the first time and agrees, with a stamp above the clock
abbrev pub ReceiptStaysLocal : Type 0
ReceiptStaysLocal =
    (s : StoreState) (m : Stamped) (stamp : ℕ) → IsConsistent s → Fits s.protocol m.instance →
    (message_of s.protocol m.instance.message).receiver ≡ s.role → ¬ WasReceived s m →
    AllAgree s.protocol (acts_of s) m.instance → last_stamp s.entries < stamp →
    IsLocal s.protocol s.role (s.entries ++ record {
      event = Receive m.instance;
      stamp = stamp;
      number = m.number;
    } ∷ [])
