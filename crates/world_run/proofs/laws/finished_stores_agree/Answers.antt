-- The law, from that of two roles' histories.
use Rattle.world_run.proofs.FinishedTableLemmas.{finished_agree}
use Rattle.world_run.proofs.laws.finished_stores_agree.Goals as goal

pub returns : goal.returns
returns c = finished_agree c.stores_agree.ensures
