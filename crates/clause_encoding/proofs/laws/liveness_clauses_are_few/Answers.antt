-- The law, for one property.
use Rattle.bspl_types.specs.declared.property.Property.TheVariants.{Liveness}
use Rattle.clause_encoding.proofs.PropertyLemmas.{clauses_few}
use Rattle.clause_encoding.proofs.laws.liveness_clauses_are_few.Goals as goal

pub returns : goal.returns
returns c = clauses_few Liveness
