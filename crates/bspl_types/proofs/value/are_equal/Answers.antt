-- The test of equality decides it.
use Rattle.std.proofs.lemmas.Bool.Decides.{Decides-at}
use Rattle.bspl_types.specs.Value.{equal_values}
use Rattle.bspl_types.specs.Equality.{equal_values_decides}
use Rattle.bspl_types.proofs.value.are_equal.Goals as goal

pub returns-clause-exact : goal.returns-clause-exact
returns-clause-exact c =
    Decides-at c.eq.result (equal_values c.args.left.now c.args.right.now) c.eq.ensures (equal_values_decides c.args.left.now c.args.right.now)
