-- The table has the start.
use Rattle.std.proofs.Common.{◌∙◌, arith}
use Rattle.order_axioms.proofs.StartLemmas.{pair_at, pairs_many}
use Rattle.order_axioms.proofs.order_numbers.OrderNumbers.pair_start.Goals as goal

pub index-requires : goal.index-requires
index-requires c = omega (arith, pairs_many _ _ c.args.self.now.are_pair_starts)

pub returns : goal.returns
returns c = c.index.ensures ∙ pair_at _ _ _ _ c.args.self.now.are_pair_starts c.requires
