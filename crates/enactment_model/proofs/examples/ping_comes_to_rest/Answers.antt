-- A run of Ping comes to rest, from its lemma.
use Rattle.enactment_model.proofs.ExampleLemmas.{ping_comes_to_rest}
use Rattle.enactment_model.proofs.examples.ping_comes_to_rest.Goals as goal

pub returns : goal.returns
returns c = ping_comes_to_rest c.equal_values_are_one.ensures.lists
