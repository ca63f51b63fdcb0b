-- The table has the start.
use Rattle.std.proofs.Common.{◌∙◌, arith}
use Rattle.order_axioms.proofs.StartLemmas.{cycle_at, cycles_many}
use Rattle.order_axioms.proofs.order_numbers.OrderNumbers.cycle_start.Goals as goal

pub index-requires : goal.index-requires
index-requires c = omega (arith, cycles_many _ _ c.args.self.now.are_cycle_starts)

pub returns : goal.returns
returns c = c.index.ensures ∙ cycle_at _ _ _ _ c.args.self.now.are_cycle_starts c.requires
