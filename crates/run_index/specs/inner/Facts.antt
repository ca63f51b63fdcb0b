-- What the events under a key make known, as short lists of values that the order of keys finds.
use Rattle.std.specs.Prelude.{◌≡◌, ℕ, ◌↔◌, ◌⊎◌, List, [], ◌∷◌, IsTrue, slice_get, Some, take}
use Rattle.std.specs.BTreeSet.{BTreeSet, contains}
use Rattle.std.specs.List.{Contains}
use Rattle.bspl_types.specs.declared.event.Event.{Event}
use Rattle.bspl_types.specs.declared.event.Event.TheVariants.{Emit, Receive}
use Rattle.bspl_types.specs.declared.expanded.Expanded.{Expanded}
use Rattle.bspl_types.specs.declared.protocol.Carried.{Carried}
use Rattle.bspl_types.specs.declared.value.Value.{Value}
use Rattle.bspl_types.specs.declared.value.Value.TheVariants.{Number}
use Rattle.bspl_types.specs.History.{instance_of, role_of}
use Rattle.bspl_types.specs.Instance.{pairs}
use Rattle.key_table.specs.KeyOrder.{key_cmp}

-- the role knows the parameter with the value
abbrev pub value_fact : ℕ → ℕ → Value → List Value
value_fact role p v = Number role ∷ Number p ∷ v ∷ []

-- the role knows some value of the parameter
abbrev pub param_fact : ℕ → ℕ → List Value
param_fact role p = Number role ∷ Number p ∷ []

-- some instance of the message is emitted
abbrev pub message_fact : ℕ → List Value
message_fact m = Number m ∷ []

-- whoever emits or receives the pairs knows their parameters, with their values
abbrev pub IsFactOfPairs : ℕ → List (Carried × Value) → List Value → Type 0
IsFactOfPairs role [] fact = ⊥
IsFactOfPairs role (pair ∷ pairs) fact =
    (param_fact role pair.0.param ≡ fact) ⊎
    ((value_fact role pair.0.param pair.1 ≡ fact) ⊎ IsFactOfPairs role pairs fact)

-- the event emits its message
abbrev pub IsFactOfEmission : Event → List Value → Type 0
IsFactOfEmission (Emit i) fact = message_fact i.message ≡ fact
IsFactOfEmission (Receive i) fact = ⊥

-- the event makes this known
abbrev pub IsFactOf : Expanded → Event → List Value → Type 0
IsFactOf x event fact =
    IsFactOfEmission event fact ⊎
    IsFactOfPairs (role_of x event) (pairs x (instance_of event)) fact

-- one of the events under the key makes this known
pub record IsFactUnder (x : Expanded) (key : List Value) (events : List Event) (fact : List Value)
    : Type 0 where
  pub event : Event
  pub among : Contains events event
  pub under : (instance_of event).key ≡ key
  pub makes : IsFactOf x event fact

-- the fact is in the set
abbrev pub HasFact : BTreeSet (List Value) → List Value → Type 0
HasFact facts fact = IsTrue (contains key_cmp facts fact)

-- the set has what the events under the key make known
pub record AreFacts (x : Expanded) (key : List Value) (events : List Event)
    (facts : BTreeSet (List Value)) : Type 0 where
  pub exact : (fact : List Value) → HasFact facts fact ↔ IsFactUnder x key events fact

-- the set has what the events before the position, under the key of the one there, make known
abbrev pub AreFactsBefore : Expanded → List Event → ℕ → BTreeSet (List Value) → Type 0
AreFactsBefore x run position facts =
    (event : Event) → slice_get run position ≡ Some event →
    AreFacts x (instance_of event).key (take position run) facts

-- the set afterwards has the facts of before, and these
pub record AddsFacts (before after : BTreeSet (List Value)) (Added : List Value → Type 0)
    : Type 0 where
  pub exact : (fact : List Value) → HasFact after fact ↔ (HasFact before fact ⊎ Added fact)
