-- The law on premises, from its lemma.
use Rattle.first_occurrences.proofs.PremiseLemmas.{premises_satisfied}
use Rattle.first_occurrences.proofs.laws.premises_hold.Goals as goal

pub returns : goal.returns
returns c = premises_satisfied c.equal_values_are_one.ensures.lists c.legal_by_positions.ensures c.known_exactly_if_some_event_binds.ensures.known c.known_exactly_if_some_event_binds.ensures.history
