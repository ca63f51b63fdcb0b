-- The law on rivals, from its lemma.
use Rattle.first_occurrences.proofs.SelectionLemmas.{rivals_satisfied}
use Rattle.first_occurrences.proofs.laws.rivals_hold.Goals as goal

pub returns : goal.returns
returns c = rivals_satisfied c.equal_values_are_one.ensures.lists c.legal_by_positions.ensures c.second_emission_is_not_enabled.ensures
