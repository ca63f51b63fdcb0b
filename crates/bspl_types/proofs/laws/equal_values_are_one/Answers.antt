-- The law, by its lemmas.
use Rattle.bspl_types.specs.Equality.{same_value_decides, equal_values_decides}
use Rattle.bspl_types.proofs.laws.equal_values_are_one.Goals as goal

pub returns-clause-values : goal.returns-clause-values
returns-clause-values c = same_value_decides

pub returns-clause-lists : goal.returns-clause-lists
returns-clause-lists c = equal_values_decides
