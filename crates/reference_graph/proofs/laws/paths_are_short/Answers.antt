-- The law, by its lemma.
use Rattle.reference_graph.proofs.LawLemmas.{path_is_short}
use Rattle.reference_graph.proofs.laws.paths_are_short.Goals as goal

pub returns : goal.returns
returns c = path_is_short
