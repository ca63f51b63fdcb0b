-- A legal run that does what a property excludes.
use Rattle.bspl_types.specs.declared.property.Property.TheVariants.{Liveness, Safety}
use Rattle.enactment_model.specs.Property.{ViolatedDoesNotHold}

-- it is against the definition
pub violated : ViolatedDoesNotHold
violated Safety x run is_legal has safe = safe.no_conflict run is_legal has.key has.param has.first has.second has.conflict
violated Liveness x run is_legal leaves live = leaves.unbound (live.bound run leaves.key is_legal leaves.quiet leaves.param leaves.public)
