-- What it is that a protocol has a property, and which runs show that it has not.
use Rattle.std.specs.Prelude.{ℕ, List}
use Rattle.bspl_types.specs.declared.event.Event.{Event}
use Rattle.bspl_types.specs.declared.expanded.Expanded.{Expanded}
use Rattle.bspl_types.specs.declared.property.Property.{Property}
use Rattle.bspl_types.specs.declared.property.Property.TheVariants.{Liveness, Safety}
use Rattle.bspl_types.specs.declared.value.Value.{Value}
use Rattle.enactment_model.specs.Legal.{IsLegalRun}
use Rattle.enactment_model.specs.Liveness.{Bound, HasPublicValue, LiveProtocol, Quiet}
use Rattle.enactment_model.specs.Safety.{Conflict, SafeProtocol}

-- the protocol has the property
abbrev pub Holds : Property → Expanded → Type 0
Holds Safety x = SafeProtocol x
Holds Liveness x = LiveProtocol x

-- the run has a conflict
pub record HasConflict (x : Expanded) (run : List Event) : Type 0 where
  pub key : List Value
  pub param : ℕ
  pub first : ℕ
  pub second : ℕ
  pub conflict : Conflict x run key param first second

-- the run is quiet at a key and leaves a public parameter unbound there
pub record LeavesUnbound (x : Expanded) (run : List Event) : Type 0 where
  pub key : List Value
  pub quiet : Quiet x run key
  pub param : ℕ
  pub public : HasPublicValue x param
  pub unbound : ¬ Bound x run key param

-- the run does what the property excludes
abbrev pub Violates : Property → Expanded → List Event → Type 0
Violates Safety x run = HasConflict x run
Violates Liveness x run = LeavesUnbound x run

-- if some legal run does, the protocol does not have the property
abbrev pub ViolatedDoesNotHold : Type 0
ViolatedDoesNotHold =
    (property : Property) (x : Expanded) (run : List Event) → IsLegalRun x run →
    Violates property x run → ¬ Holds property x
