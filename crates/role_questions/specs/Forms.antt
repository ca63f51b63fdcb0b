-- What a role may send now under a key, and what its sender still has to choose.
use Rattle.std.specs.Prelude.{◌≡◌, ◌↔◌, ℕ, ◌<◌, Bool, ◌&&◌, not, List, map, IsTrue}
use Rattle.std.specs.List.{All, AllPairs, Contains, filter}
use Rattle.bspl_types.specs.declared.event.Event.{Event}
use Rattle.bspl_types.specs.declared.expanded.Expanded.{Expanded}
use Rattle.bspl_types.specs.declared.protocol.Adornment.TheVariants.{In}
use Rattle.bspl_types.specs.declared.protocol.Carried.{Carried}
use Rattle.bspl_types.specs.declared.value.Value.{Value}
use Rattle.bspl_types.specs.Adornment.{has_value}
use Rattle.bspl_types.specs.Choice.{chosen_params, is_out}
use Rattle.bspl_types.specs.Expansion.{message_of}
use Rattle.bspl_types.specs.Knowledge.{CanEmit, Knows}
use Rattle.enactment_model.specs.Liveness.{IsEmitted}
use Rattle.local_store.specs.State.{StoreState, acts_of}
use Rattle.role_questions.specs.declared.form.Form.{Form}
use Rattle.role_questions.specs.declared.form.KnownValue.{KnownValue}
use Rattle.role_questions.specs.Known.{ListsValue}

-- the role sends the message, and can emit it now under the key
pub record MaySend (s : StoreState) (key : List Value) (m : ℕ) : Type 0 where
  pub own : (message_of s.protocol m).sender ≡ s.role
  pub can : CanEmit s.protocol (acts_of s) m key

-- exactly the messages that the role may send, in the protocol's order
pub record AreEnabled (s : StoreState) (key : List Value) (messages : List ℕ) : Type 0 where
  pub each : All (MaySend s key) messages
  pub all : (m : ℕ) → MaySend s key m → Contains messages m
  pub in_order : AllPairs ◌<◌ messages

-- of the `in` parameters among these, exactly what is known under the key
abbrev pub ListsIns : Expanded → List Event → List Value → List Carried → List KnownValue → Type 0
ListsIns x history key carried list = (p : ℕ) (v : Value) → ListsValue list p v ↔
    (Contains carried (record { param = p; adornment = In }) × Knows x history key p v)

-- adorned `in`
abbrev pub is_adorned_in : Carried → Bool
is_adorned_in c = has_value c.adornment && not (is_out c.adornment)

-- the form of a message that the role may send: whether it was emitted before, the known values of
-- its `in` parameters in the message's order, and the parameters whose values its sender chooses
pub record IsForm (s : StoreState) (key : List Value) (f : Form) : Type 0 where
  pub may : MaySend s key f.message
  pub before : IsTrue f.sent ↔ IsEmitted (acts_of s) key f.message
  pub ins_are : ListsIns s.protocol (acts_of s) key (message_of s.protocol f.message).carried f.ins
  pub ins_in_order : map (λ k. k.param) f.ins ≡
      map (λ c. c.param) (filter is_adorned_in (message_of s.protocol f.message).carried)
  pub outs_are : f.outs ≡ map (λ c. c.param) (chosen_params s.protocol f.message)

-- the forms of exactly the messages that the role may send, in the protocol's order
pub record AreForms (s : StoreState) (key : List Value) (forms : List Form) : Type 0 where
  pub messages : AreEnabled s key (map (λ f. f.message) forms)
  pub each : All (IsForm s key) forms
