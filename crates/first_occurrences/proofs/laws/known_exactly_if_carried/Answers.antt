-- The law on what is known, from its lemma.
use Rattle.first_occurrences.proofs.PrefixLemmas.{known_by_carriers}
use Rattle.first_occurrences.proofs.laws.known_exactly_if_carried.Goals as goal

pub returns : goal.returns
returns c = known_by_carriers c.equal_values_are_one.ensures.lists c.known_exactly_if_some_event_binds.ensures.known c.known_exactly_if_some_event_binds.ensures.history
