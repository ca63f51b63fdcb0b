-- The law on one more at the end.
use Rattle.refutation_log.proofs.ResolutionLemmas.{derives_more}
use Rattle.refutation_log.proofs.laws.step_appends.Goals as goal

pub returns : goal.returns
returns c = derives_more
