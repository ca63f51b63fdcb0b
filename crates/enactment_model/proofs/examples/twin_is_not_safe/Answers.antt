-- Twin is not safe, from its lemma.
use Rattle.enactment_model.proofs.ExampleLemmas.{twin_is_not_safe}
use Rattle.enactment_model.proofs.examples.twin_is_not_safe.Goals as goal

pub returns : goal.returns
returns c = twin_is_not_safe
