-- The test of equality decides it.
use Rattle.std.proofs.Common.{rules}
use Rattle.bspl_types.specs.Equality.{same_value_decides}
use Rattle.bspl_types.proofs.value.Value.same.Goals as goal

pub returns-clause-exact : goal.returns-clause-exact
returns-clause-exact c = search (rules, same_value_decides)
