-- The law, by its lemma.
use Rattle.reference_graph.proofs.LawLemmas.{order_is_short}
use Rattle.reference_graph.proofs.laws.orders_are_short.Goals as goal

pub returns : goal.returns
returns c = order_is_short
