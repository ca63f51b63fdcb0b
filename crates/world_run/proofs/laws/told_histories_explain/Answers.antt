-- The law, from that of one receipt.
use Rattle.world_run.proofs.ToldLemmas.{explained}
use Rattle.world_run.proofs.laws.told_histories_explain.Goals as goal

pub returns : goal.returns
returns c = explained c.taken_envelopes_explain.ensures
