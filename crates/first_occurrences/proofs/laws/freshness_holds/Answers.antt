-- The law on freshness, from its lemma.
use Rattle.first_occurrences.proofs.FreshnessLemmas.{freshness_satisfied}
use Rattle.first_occurrences.proofs.laws.freshness_holds.Goals as goal

pub returns : goal.returns
returns c = freshness_satisfied c.equal_values_are_one.ensures.lists c.legal_by_positions.ensures c.known_exactly_if_some_event_binds.ensures.known c.known_exactly_if_some_event_binds.ensures.history
