-- The law, by its lemma.
use Rattle.reference_graph.proofs.LawLemmas.{one_cycle}
use Rattle.reference_graph.proofs.laws.cycles_are_one.Goals as goal

pub returns : goal.returns
returns c = one_cycle
