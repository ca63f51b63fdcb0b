-- The law on what is bound, from its lemma.
use Rattle.first_occurrences.proofs.BoundLemmas.{bound_by_what_is_sent}
use Rattle.first_occurrences.proofs.laws.bound_exactly_if_sent.Goals as goal

pub returns : goal.returns
returns c = bound_by_what_is_sent c.equal_values_are_one.ensures.lists c.legal_by_positions.ensures c.known_exactly_if_some_event_binds.ensures.known c.known_exactly_if_some_event_binds.ensures.history
