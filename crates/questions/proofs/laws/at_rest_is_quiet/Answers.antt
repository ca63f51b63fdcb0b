-- What comes to rest is quiet where the roles agree, by its lemma.
use Rattle.questions.proofs.QuietLemmas.{rest_to_quiet}
use Rattle.questions.proofs.laws.at_rest_is_quiet.Goals as goal

pub returns : goal.returns
returns c = rest_to_quiet
