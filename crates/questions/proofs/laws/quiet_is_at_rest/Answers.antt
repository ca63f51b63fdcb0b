-- What is quiet comes to rest, by its lemma.
use Rattle.questions.proofs.QuietLemmas.{quiet_to_rest}
use Rattle.questions.proofs.laws.quiet_is_at_rest.Goals as goal

pub returns : goal.returns
returns c = quiet_to_rest
