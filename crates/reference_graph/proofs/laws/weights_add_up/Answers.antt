-- The law, by its lemmas.
use Rattle.reference_graph.proofs.WeightLemmas.{weight_below-zero, weight_below-suc}
use Rattle.reference_graph.proofs.laws.weights_add_up.Goals as goal

pub returns : goal.returns
returns c = record { at_node = weight_below-zero; below = weight_below-suc }
