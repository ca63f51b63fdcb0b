-- The law, from its lemma.
use Rattle.questions.proofs.ConflictLemmas.{conflict_asked}
use Rattle.questions.proofs.laws.conflict_is_a_question.Goals as goal

pub returns : goal.returns
returns c = conflict_asked c.second_emission_is_not_enabled.ensures c.legal_by_positions.ensures
