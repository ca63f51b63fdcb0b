-- The law on the next envelope, from its lemma.
use Rattle.adapter.proofs.PlanLemmas.{one_next}
use Rattle.adapter.proofs.laws.next_envelopes_are_one.Goals as goal

pub returns : goal.returns
returns c = one_next
