-- The law, from its lemma.
use Rattle.enactability.proofs.ModelLemmas.{enacts}
use Rattle.enactability.proofs.laws.model_enacts.Goals as goal

pub returns : goal.returns
returns c = enacts c.shared_model_has_run.ensures.run c.cut_enacts.ensures
