-- The value of a parameter under a key that the roles end with.
use Rattle.std.specs.Prelude.{ℕ, ◌<◌, List, Option, Some, None}
use Rattle.bspl_types.specs.declared.event.Event.{Event}
use Rattle.bspl_types.specs.declared.expanded.Expanded.{Expanded}
use Rattle.bspl_types.specs.declared.value.Value.{Value}
use Rattle.bspl_types.specs.History.{history_of}
use Rattle.bspl_types.specs.Knowledge.{IsKnown}
use Rattle.role_knowledge.specs.FirstKnown.{IsFirstKnown}

-- the role knows the value first, and no lower role knows any
pub record IsLowestKnown (x : Expanded) (run : List Event) (key : List Value) (p : ℕ) (v : Value)
    : Type 0 where
  pub role : ℕ
  pub first : IsFirstKnown x (history_of x role run) key p v
  pub lowest : (other : ℕ) → other < role → ¬ IsKnown x (history_of x other run) key p

-- the first value that the lowest role knows that knows one, or none if no role does
abbrev pub IsTableValue : Expanded → List Event → List Value → ℕ → Option Value → Type 0
IsTableValue x run key p None = (role : ℕ) → ¬ IsKnown x (history_of x role run) key p
IsTableValue x run key p (Some v) = IsLowestKnown x run key p v
