-- The law, by its lemmas.
use Rattle.protocol_limits.proofs.UnrolledLemmas.{order_of_unrolled, unrolled_of_order}
use Rattle.protocol_limits.proofs.laws.unrolled_have_orders.Goals as goal

pub returns : goal.returns
returns c = λ protocols top within. ((order_of_unrolled c.acyclic_graphs_have_orders.ensures protocols top within), (λ found. unrolled_of_order c.orders_have_no_cycle.ensures protocols top found.0 found.1))
