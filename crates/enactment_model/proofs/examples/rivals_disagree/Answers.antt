-- The roles of Rivals do not agree, from its lemma.
use Rattle.enactment_model.proofs.RivalLemmas.{rivals_disagree}
use Rattle.enactment_model.proofs.examples.rivals_disagree.Goals as goal

pub returns : goal.returns
returns c = rivals_disagree
