-- The law on enactments that are quiet, from its lemma.
use Rattle.first_occurrences.proofs.RestLemmas.{rest_satisfied}
use Rattle.first_occurrences.proofs.laws.rest_holds.Goals as goal

pub returns : goal.returns
returns c = rest_satisfied c.equal_values_are_one.ensures.lists c.known_exactly_if_some_event_binds.ensures.known c.known_exactly_if_some_event_binds.ensures.history c.bound_exactly_if_sent.ensures
