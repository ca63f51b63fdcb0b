-- The law on one more at the end.
use Rattle.refutation_log.proofs.ResolutionLemmas.{new_more}
use Rattle.refutation_log.proofs.laws.new_clause_appends.Goals as goal

pub returns : goal.returns
returns c = new_more
