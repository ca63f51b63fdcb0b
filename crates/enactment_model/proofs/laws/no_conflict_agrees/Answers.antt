-- The agreement law, from its lemma.
use Rattle.enactment_model.proofs.SourceLemmas.{agree_without_conflict}
use Rattle.enactment_model.proofs.laws.no_conflict_agrees.Goals as goal

pub returns : goal.returns
returns c = agree_without_conflict
