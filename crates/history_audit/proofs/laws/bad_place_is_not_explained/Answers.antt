-- In explained histories each event may happen.
use Rattle.history_audit.proofs.ExplainedLemmas.{bad_unexplained}
use Rattle.history_audit.proofs.laws.bad_place_is_not_explained.Goals as goal

pub returns : goal.returns
returns c = bad_unexplained c.legal_by_positions.ensures
