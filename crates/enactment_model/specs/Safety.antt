-- When two emissions are in conflict, and when a protocol is safe.
use Rattle.std.specs.Prelude.{◌≡◌, ℕ, ◌<◌, List, slice_get, Some}
use Rattle.bspl_types.specs.declared.event.Event.{Event}
use Rattle.bspl_types.specs.declared.event.Event.TheVariants.{Emit}
use Rattle.bspl_types.specs.declared.event.Instance.{Instance}
use Rattle.bspl_types.specs.declared.expanded.Expanded.{Expanded}
use Rattle.bspl_types.specs.declared.protocol.Adornment.TheVariants.{Out}
use Rattle.bspl_types.specs.declared.value.Value.{Value}
use Rattle.bspl_types.specs.Expansion.{Adorns}
use Rattle.bspl_types.specs.History.{history_of}
use Rattle.bspl_types.specs.Knowledge.{Knows}
use Rattle.enactment_model.specs.Legal.{IsLegalRun}

-- at the position an instance under the key is emitted, whose message adorns the parameter `out`
pub record ProducesAt (x : Expanded) (run : List Event) (key : List Value) (p position : ℕ)
    : Type 0 where
  pub instance : Instance
  pub emitted : slice_get run position ≡ Some (Emit instance)
  pub under : instance.key ≡ key
  pub adorned : Adorns x instance.message Out p

-- two emissions under the key produce the parameter; key parameters and equal values count too
pub record Conflict (x : Expanded) (run : List Event) (key : List Value) (p first second : ℕ)
    : Type 0 where
  pub in_order : first < second
  pub first_produces : ProducesAt x run key p first
  pub second_produces : ProducesAt x run key p second

-- under no key and for no parameter is there a conflict
abbrev pub HasNoConflict : Expanded → List Event → Type 0
HasNoConflict x run = (key : List Value) (p first second : ℕ) → ¬ Conflict x run key p first second

-- all values that any roles' histories know of a parameter under a key are equal
abbrev pub Agree : Expanded → List Event → Type 0
Agree x run =
    (key : List Value) (p role other : ℕ) (v w : Value) → Knows x (history_of x role run) key p v →
    Knows x (history_of x other run) key p w → v ≡ w

-- no legal run has a conflict, and every legal run agrees
pub record SafeProtocol (x : Expanded) : Type 0 where
  pub no_conflict : (run : List Event) → IsLegalRun x run → HasNoConflict x run
  pub agree : (run : List Event) → IsLegalRun x run → Agree x run
