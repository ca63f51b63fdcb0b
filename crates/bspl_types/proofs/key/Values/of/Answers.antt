-- The copied values stand before blank cells.
use Rattle.std.proofs.Common.{length, ap}
use Rattle.bspl_types.specs.declared.value.Value.TheVariants.{Number}
use Rattle.bspl_types.specs.Limits.{carried_limit}
use Rattle.bspl_types.proofs.PaddedLemmas.{front_is_padded}
use Rattle.bspl_types.proofs.key.Values.of.Goals as goal

pub invariant_of-result : goal.invariant_of-result
invariant_of-result c = front_is_padded carried_limit (Number 0) (length c.args.values.now) c.copy_from_slice.new.self (ap length c.copy_from_slice.ensures.after) c.requires
