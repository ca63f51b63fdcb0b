-- The law, from its lemma.
use Rattle.question_answer.proofs.TitleLemmas.{once}
use Rattle.question_answer.proofs.laws.titled_once.Goals as goal

pub returns : goal.returns
returns c = once
