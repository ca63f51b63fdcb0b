-- The law on taken envelopes, from its lemma.
use Rattle.adapter.proofs.ExplainedLemmas.{explained}
use Rattle.adapter.proofs.laws.taken_envelopes_explain.Goals as goal

pub returns : goal.returns
returns c = explained
