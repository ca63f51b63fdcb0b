-- The values of an instance, parameter by parameter.
use Rattle.std.specs.Prelude.{◌≡◌, ℕ, List}
use Rattle.bspl_types.specs.declared.event.Event.{Event}
use Rattle.bspl_types.specs.declared.expanded.Expanded.{Expanded}
use Rattle.bspl_types.specs.declared.protocol.Adornment.TheVariants.{In}
use Rattle.bspl_types.specs.declared.protocol.Carried.{Carried}
use Rattle.bspl_types.specs.declared.value.Value.{Value}
use Rattle.bspl_types.specs.Knowledge.{IsKnown}
use Rattle.bspl_types.specs.History.{sender_history}
use Rattle.witness_replay.specs.Witness.{IsWitnessValue, key_of_ones}

-- if the parameter is adorned `in`, the sender knows it
pub record IsInKnown (x : Expanded) (before : List Event) (m : ℕ) (c : Carried) : Type 0 where
  pub known : c.adornment ≡ In →
      IsKnown x (sender_history x before m) (key_of_ones x) c.param

-- the parameter's value in the instance of the message
abbrev pub HasValueOf : Expanded → List Event → ℕ → Carried → Value → Type 0
HasValueOf x before m c value = IsWitnessValue x before m (c, value)
