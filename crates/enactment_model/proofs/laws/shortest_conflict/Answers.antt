-- The law on shortest conflicts, from its lemma.
use Rattle.enactment_model.proofs.ShortestLemmas.{shortest_conflict}
use Rattle.enactment_model.proofs.laws.shortest_conflict.Goals as goal

pub returns : goal.returns
returns c = shortest_conflict c.equal_values_are_one.ensures.lists
