-- Which value of a parameter a history makes known first.
use Rattle.std.specs.Prelude.{◌≡◌, ℕ, List, [], ◌∷◌, ◌++◌}
use Rattle.bspl_types.specs.declared.event.Event.{Event}
use Rattle.bspl_types.specs.declared.expanded.Expanded.{Expanded}
use Rattle.bspl_types.specs.declared.value.Value.{Value}
use Rattle.bspl_types.specs.Knowledge.{IsKnown, Knows}

-- no value is known from the events before one, and that event makes this value known
pub record IsFirstKnown (x : Expanded) (history : List Event) (key : List Value) (p : ℕ)
    (v : Value) : Type 0 where
  pub before : List Event
  pub event : Event
  pub after : List Event
  pub split : history ≡ before ++ event ∷ after
  pub unknown : ¬ IsKnown x before key p
  pub knows : Knows x (event ∷ []) key p v
