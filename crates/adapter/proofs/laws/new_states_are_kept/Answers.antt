-- The law on new states, from its lemma.
use Rattle.adapter.proofs.StateLemmas.{new_kept}
use Rattle.adapter.proofs.laws.new_states_are_kept.Goals as goal

pub returns : goal.returns
returns c = new_kept
