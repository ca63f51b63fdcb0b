-- The law, by its lemma.
use Rattle.reference_graph.proofs.LongestLemmas.{depth_is_longest}
use Rattle.reference_graph.proofs.laws.depths_are_longest.Goals as goal

pub returns : goal.returns
returns c = depth_is_longest
