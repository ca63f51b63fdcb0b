-- What a store answers to a message, and how it changes.
use Rattle.std.specs.Prelude.{◌≡◌, ◌≢◌, ℕ, ◌+◌, ◌<◌, max, List, ◌∷◌, ◌++◌}
use Rattle.std.specs.List.{All, Contains}
use Rattle.bspl_types.specs.declared.envelope.Stamped.{Stamped}
use Rattle.bspl_types.specs.declared.event.Event.{Event}
use Rattle.bspl_types.specs.declared.event.Event.TheVariants.{Receive}
use Rattle.bspl_types.specs.declared.event.Instance.{Instance}
use Rattle.bspl_types.specs.declared.expanded.Expanded.{Expanded}
use Rattle.bspl_types.specs.declared.protocol.Carried.{Carried}
use Rattle.bspl_types.specs.declared.value.Value.{Value}
use Rattle.bspl_types.specs.Expansion.{message_of}
use Rattle.bspl_types.specs.Instance.{Fits, pairs}
use Rattle.bspl_types.specs.Knowledge.{Knows}
use Rattle.stamped_history.specs.Entries.{clock_limit, last_stamp}
use Rattle.local_store.specs.declared.receipt.Receipt.{Receipt}
use Rattle.local_store.specs.declared.receipt.Receipt.TheVariants.{Fresh, Repeat, Differs}
use Rattle.local_store.specs.State.{StoreState, acts_of, with_entry}

-- a message that the store can take: it fits, the role receives it, its key is held, there is room
-- for the event, and a stamp above the clock and the message's
pub record IsArrival (s : StoreState) (m : Stamped) : Type 0 where
  pub fits : Fits s.protocol m.instance
  pub own : (message_of s.protocol m.instance.message).receiver ≡ s.role
  pub held : Contains s.keys m.instance.key
  pub spare : 0 < s.spare
  pub clock : last_stamp s.entries < clock_limit
  pub stamp : m.stamp < clock_limit

-- what the history knows of the pair's parameter under the key is the pair's value
abbrev pub Agrees : Expanded → List Event → List Value → Carried × Value → Type 0
Agrees x history key pair = (v : Value) → Knows x history key pair.0.param v → v ≡ pair.1

-- the instance's values are those that the history knows
abbrev pub AllAgree : Expanded → List Event → Instance → Type 0
AllAgree x history i = All (Agrees x history i.key) (pairs x i)

-- of the instance's parameters in the message's order, this is the first one that is known with
-- another value than the one that arrived
pub record IsFirstDifference (x : Expanded) (history : List Event) (i : Instance)
    (param : ℕ) (kept arrived : Value) : Type 0 where
  pub before : List (Carried × Value)
  pub differing : Carried × Value
  pub after : List (Carried × Value)
  pub split : pairs x i ≡ before ++ differing ∷ after
  pub agreed : All (Agrees x history i.key) before
  pub param_is : param ≡ differing.0.param
  pub arrived_is : arrived ≡ differing.1
  pub knows : Knows x history i.key param kept
  pub differs : kept ≢ arrived

-- the same instance was received before
abbrev pub WasReceived : StoreState → Stamped → Type 0
WasReceived s m = Contains (acts_of s) (Receive m.instance)

-- the receipt is appended, with a stamp above the clock and the message's stamp (Lamport 1978)
abbrev pub with_receipt : StoreState → Stamped → StoreState
with_receipt s m =
    with_entry s (Receive m.instance) (max (last_stamp s.entries) m.stamp + 1) m.number

-- the answer, exactly if this holds of the message, and what the store is afterwards
abbrev pub IsReceipt : StoreState → Stamped → Receipt → StoreState → Type 0
IsReceipt old m Repeat new = WasReceived old m × (new ≡ old)
IsReceipt old m (Differs param kept arrived) new =
    (¬ WasReceived old m) ×
    IsFirstDifference old.protocol (acts_of old) m.instance param kept arrived × (new ≡ old)
IsReceipt old m Fresh new =
    (¬ WasReceived old m) × AllAgree old.protocol (acts_of old) m.instance
    × (new ≡ with_receipt old m)

-- the answer that the store gives to the message if it comes next
abbrev pub IsForeseen : StoreState → Stamped → Receipt → Type 0
IsForeseen s m Repeat = WasReceived s m
IsForeseen s m (Differs param kept arrived) =
    (¬ WasReceived s m) ×
    IsFirstDifference s.protocol (acts_of s) m.instance param kept arrived
IsForeseen s m Fresh =
    (¬ WasReceived s m) × AllAgree s.protocol (acts_of s) m.instance
