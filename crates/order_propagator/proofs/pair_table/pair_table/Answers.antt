-- No pair is known at the start, when the next variable is the first.
use Rattle.std.proofs.Common.{arith}
use Rattle.order_propagator.proofs.VariableLemmas.{no_pairs}
use Rattle.order_propagator.proofs.pair_table.pair_table.Goals as goal

pub loop-first-init : goal.loop-first-init
loop-first-init c = rw c.new-pairs.ensures.items (record { pairs = no_pairs c.args.order; next = omega arith })
