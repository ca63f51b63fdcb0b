-- The law, from its lemma.
use Rattle.enactability.proofs.AnswerLemmas.{enacted_of}
use Rattle.enactability.proofs.laws.cut_enacts.Goals as goal

pub returns : goal.returns
returns c = enacted_of c.prefix_is_legal.ensures.run c.shared_model_has_run.ensures.ones
