-- The value goes into the first blank cell.
use Rattle.std.proofs.Common.{arith, length-take}
use Rattle.bspl_types.specs.declared.value.Value.TheVariants.{Number}
use Rattle.bspl_types.specs.Limits.{carried_limit}
use Rattle.bspl_types.proofs.PaddedLemmas.{push_is_padded}
use Rattle.bspl_types.proofs.key.Values.push.Goals as goal

pub invariant_of-self : goal.invariant_of-self
invariant_of-self c = push_is_padded carried_limit (Number 0) c.self.inside.len c.self.inside.cells c.args.value c.self.invariant (grind (arith, length-take, c.requires, c.self.view_is, c.self.invariant.few, c.self.invariant.all))
