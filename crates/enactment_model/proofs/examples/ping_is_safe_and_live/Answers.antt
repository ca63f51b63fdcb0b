-- Ping is safe and live, from its lemma.
use Rattle.enactment_model.proofs.ExampleLemmas.{ping_is_safe_and_live}
use Rattle.enactment_model.proofs.examples.ping_is_safe_and_live.Goals as goal

pub returns : goal.returns
returns c = ping_is_safe_and_live c.equal_values_are_one.ensures.lists
