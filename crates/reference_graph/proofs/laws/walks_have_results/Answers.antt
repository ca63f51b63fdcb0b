-- The law, by its lemma.
use Rattle.reference_graph.proofs.ResultLemmas.{has_result}
use Rattle.reference_graph.proofs.laws.walks_have_results.Goals as goal

pub returns : goal.returns
returns c = has_result
