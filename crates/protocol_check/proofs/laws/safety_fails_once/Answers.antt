-- The law, for one property.
use Rattle.bspl_types.specs.declared.property.Property.TheVariants.{Safety}
use Rattle.protocol_check.proofs.laws.safety_fails_once.Goals as goal

pub returns-clause-failure : goal.returns-clause-failure
returns-clause-failure c = c.log_fails_once.ensures.failure Safety

pub returns-clause-accepted : goal.returns-clause-accepted
returns-clause-accepted c = c.log_fails_once.ensures.accepted Safety
