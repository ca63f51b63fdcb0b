-- The law, from its lemma.
use Rattle.questions.proofs.ConflictLemmas.{safety_asked}
use Rattle.questions.proofs.laws.safety_is_a_question.Goals as goal

pub returns : goal.returns
returns c = safety_asked c.conflict_is_a_question.ensures c.no_conflict_agrees.ensures
