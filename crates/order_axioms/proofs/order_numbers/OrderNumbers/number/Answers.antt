-- A cycle may begin at any of its kinds.
use Rattle.order_axioms.proofs.CycleLemmas.{forbids_turned}
use Rattle.order_axioms.proofs.order_numbers.OrderNumbers.number.Goals as goal

pub returns-then-y-z : goal.returns-then-y-z
returns-then-y-z c = let turned = forbids_turned c.args.self.now.order _ c.args.y c.args.z c.args.x c.number_from-then-y-z.ensures in forbids_turned c.args.self.now.order _ c.args.z c.args.x c.args.y turned

pub returns-else-y-z : goal.returns-else-y-z
returns-else-y-z c = forbids_turned c.args.self.now.order _ c.args.z c.args.x c.args.y c.number_from-else-y-z.ensures
