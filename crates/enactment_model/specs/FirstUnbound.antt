-- The first public parameter with a value that an enactment has not bound.
use Rattle.std.specs.Prelude.{ℕ, ◌<◌, List}
use Rattle.bspl_types.specs.declared.event.Event.{Event}
use Rattle.bspl_types.specs.declared.expanded.Expanded.{Expanded}
use Rattle.bspl_types.specs.declared.value.Value.{Value}
use Rattle.enactment_model.specs.Liveness.{Bound, HasPublicValue}

-- what is public and has a value is bound
abbrev pub BindsPublic : Expanded → List Event → List Value → Type 0
BindsPublic x run key = (p : ℕ) → HasPublicValue x p → Bound x run key p

-- the parameter is public, has a value and is not bound; those before it are
pub record IsFirstUnbound (x : Expanded) (run : List Event) (key : List Value) (p : ℕ)
    : Type 0 where
  pub public : HasPublicValue x p
  pub unbound : ¬ Bound x run key p
  pub first : (q : ℕ) → q < p → HasPublicValue x q → Bound x run key q
