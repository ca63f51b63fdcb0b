-- Which values an instance carries, and which of them a role knows.
use Rattle.std.specs.Prelude.{◌≡◌, ℕ, Bool, false, true, cond, ◌==◌, ◌&&◌, List, [], ◌∷◌}
use Rattle.std.specs.List.{Contains}
use Rattle.bspl_types.specs.declared.event.Event.{Event}
use Rattle.bspl_types.specs.declared.expanded.Expanded.{Expanded}
use Rattle.bspl_types.specs.declared.protocol.Adornment.{Adornment}
use Rattle.bspl_types.specs.declared.protocol.Adornment.TheVariants.{In}
use Rattle.bspl_types.specs.declared.protocol.Carried.{Carried}
use Rattle.bspl_types.specs.declared.value.Value.{Value}
use Rattle.bspl_types.specs.History.{instance_of, role_of}
use Rattle.bspl_types.specs.Instance.{Carries}
use Rattle.bspl_types.specs.Knowledge.{Knows}
use Rattle.bspl_types.specs.Value.{same_value}

-- some pair is of the parameter and the value
abbrev pub has_pair : List (Carried × Value) → ℕ → Value → Bool
has_pair [] p v = false
has_pair (pair ∷ pairs) p v =
    cond (pair.0.param == p && same_value pair.1 v) true (has_pair pairs p v)

-- the event is the role's, under the key, and carries the parameter with the value
pub record Reveals (x : Expanded) (role : ℕ) (key : List Value) (p : ℕ) (v : Value) (event : Event)
    : Type 0 where
  pub own : role_of x event ≡ role
  pub under : (instance_of event).key ≡ key
  pub adornment : Adornment
  pub carries : Carries x (instance_of event) adornment p v

-- if the pair is of the parameter, adorned `in`, its value is known
pub record IsKnownPair (x : Expanded) (history : List Event) (key : List Value) (p : ℕ)
    (pair : Carried × Value) : Type 0 where
  pub known : pair.0 ≡ record { param = p; adornment = In } → Knows x history key p pair.1

-- a pair of the parameter, adorned `in`, has a value that is not known
pub record HasUnknownPair (x : Expanded) (history : List Event) (key : List Value) (p : ℕ)
    (pairs : List (Carried × Value)) : Type 0 where
  pub value : Value
  pub among : Contains pairs (record { param = p; adornment = In }, value)
  pub unknown : ¬ Knows x history key p value
