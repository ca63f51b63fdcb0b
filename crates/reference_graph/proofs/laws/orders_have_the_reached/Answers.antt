-- The law, by its lemma.
use Rattle.reference_graph.proofs.LawLemmas.{has_reached}
use Rattle.reference_graph.proofs.laws.orders_have_the_reached.Goals as goal

pub returns : goal.returns
returns c = has_reached
