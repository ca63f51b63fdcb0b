-- The same answer, by its lemma.
use Rattle.questions.proofs.SameLemmas.{same_answer}
use Rattle.questions.proofs.laws.same_has_same_answer.Goals as goal

pub returns : goal.returns
returns c = same_answer
