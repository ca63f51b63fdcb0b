-- Which instance a store emits, and with which stamp and number.
use Rattle.std.specs.Prelude.{◌≡◌, ℕ, ◌+◌, ◌<◌, Some, List, map, length, slice_get}
use Rattle.std.specs.List.{Contains, filter}
use Rattle.bspl_types.specs.declared.envelope.Stamped.{Stamped}
use Rattle.bspl_types.specs.declared.event.Instance.{Instance}
use Rattle.bspl_types.specs.declared.expanded.Expanded.{Expanded}
use Rattle.bspl_types.specs.declared.protocol.Adornment.TheVariants.{In}
use Rattle.bspl_types.specs.declared.value.Value.{Value}
use Rattle.bspl_types.specs.Choice.{chosen_params, is_chosen}
use Rattle.bspl_types.specs.Expansion.{message_of}
use Rattle.bspl_types.specs.Instance.{Carries, Fits, pairs}
use Rattle.bspl_types.specs.Knowledge.{CanEmit, Knows}
use Rattle.stamped_history.specs.Entries.{clock_limit, last_stamp}
use Rattle.local_store.specs.State.{StoreState, acts_of}

-- an emission is proposed: under a held key, with a value for each parameter that the sender
-- chooses, and with a next stamp
pub record IsProposal (s : StoreState) (message : ℕ) (key outs : List Value) : Type 0 where
  pub held : Contains s.keys key
  pub chosen : length outs ≡ length (chosen_params s.protocol message)
  pub clock : last_stamp s.entries < clock_limit

-- it can be tried: the role sends the message, and there is room for the event
pub record IsAttempt (s : StoreState) (message : ℕ) (key outs : List Value) : Type 0 where
  pub proposal : IsProposal s message key outs
  pub known : message < length s.protocol.messages
  pub own : (message_of s.protocol message).sender ≡ s.role
  pub spare : 0 < s.spare

-- the instance's values of the parameters that the sender chooses, in the message's order
abbrev pub chosen_values : Expanded → Instance → List Value
chosen_values x i = map (λ pair. pair.1) (filter (λ pair. is_chosen x.keys pair.0) (pairs x i))

-- the instance of the message under the key that has these chosen values and the known ones of its
-- `in` parameters, with the next stamp and the next index
pub record IsEmission (s : StoreState) (message : ℕ) (key outs : List Value) (m : Stamped)
    : Type 0 where
  pub fits : Fits s.protocol m.instance
  pub message_is : m.instance.message ≡ message
  pub key_is : m.instance.key ≡ key
  pub ins : (p : ℕ) (v : Value) → Carries s.protocol m.instance In p v →
      Knows s.protocol (acts_of s) key p v
  pub outs_are : chosen_values s.protocol m.instance ≡ outs
  pub stamp_is : m.stamp ≡ last_stamp s.entries + 1
  pub number_is : m.number ≡ length s.entries

-- what was planned under the row's key can be emitted now: it is the emission of an attempt
pub record IsPlannedAt (s : StoreState) (row : ℕ) (m : Stamped) : Type 0 where
  pub message : ℕ
  pub key : List Value
  pub outs : List Value
  pub attempt : IsAttempt s message key outs
  pub can : CanEmit s.protocol (acts_of s) message key
  pub row_is : slice_get s.keys row ≡ Some key
  pub emission : IsEmission s message key outs m
