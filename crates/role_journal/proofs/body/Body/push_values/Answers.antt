-- One field more, and one value more.
use Rattle.std.proofs.Common.{subst, arith}
use Rattle.std.proofs.lemmas.Grind.{common_steps}
use Rattle.std.proofs.lemmas.List.Elements.{All-more}
use Rattle.bspl_types.specs.Value.{IsValue}
use Rattle.role_journal.proofs.body.Body.push_values.Goals as goal

pub loop-value-preserved : goal.loop-value-preserved
loop-value-preserved c = record {
  fields = grind (arith, common_steps);
  size = omega arith;
  good = All-more IsValue c.args.values.now c.loop-value.value-index c.value-item.result c.loop-value-test.true c.loop-value.invariant.good
      (subst IsValue c.value-item.is c.push_value.ensures.good);
}
