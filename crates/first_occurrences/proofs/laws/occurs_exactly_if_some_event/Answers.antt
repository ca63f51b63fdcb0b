-- The law on which kinds occur, from its lemmas.
use Rattle.first_occurrences.proofs.PrefixLemmas.{occurs_by_event, occurs_within}
use Rattle.first_occurrences.proofs.laws.occurs_exactly_if_some_event.Goals as goal

pub returns-clause-event : goal.returns-clause-event
returns-clause-event c = occurs_by_event c.equal_values_are_one.ensures.lists

pub returns-clause-within : goal.returns-clause-within
returns-clause-within c = occurs_within
