-- The clause of three rising kinds forbids the cycle.
use Rattle.std.proofs.Common.{◌<◌, arith}
use Rattle.order_axioms.proofs.CycleLemmas.{forbids_backward, forbids_forward}
use Rattle.order_axioms.proofs.order_numbers.OrderNumbers.number_from.Goals as goal

pub returns-then-y-z : goal.returns-then-y-z
returns-then-y-z c = forbids_forward c.args.self.now.order _ c.args.x c.args.y c.args.z c.requires.least.0 c.if-y-z.true c.number_of.ensures

pub returns-else-y-z : goal.returns-else-y-z
returns-else-y-z c =
    let below : c.args.z < c.args.y = omega (arith, c.if-y-z.false, c.requires.kinds.distinct.1) in
    forbids_backward c.args.self.now.order _ c.args.x c.args.y c.args.z c.requires.least.1 below c.number_of-else-y-z.ensures
