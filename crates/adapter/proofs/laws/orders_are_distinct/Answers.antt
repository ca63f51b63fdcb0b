-- The law on orders, from its lemma.
use Rattle.adapter.proofs.OrderLemmas.{distinct_orders}
use Rattle.adapter.proofs.laws.orders_are_distinct.Goals as goal

pub returns : goal.returns
returns c = distinct_orders
