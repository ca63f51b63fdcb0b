-- The law, from its lemma.
use Rattle.enactability.proofs.ClauseLemmas.{enact_few}
use Rattle.enactability.proofs.laws.enact_clauses_are_few.Goals as goal

pub returns : goal.returns
returns c = enact_few c.safety_clauses_are_few.ensures
