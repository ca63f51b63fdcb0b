-- A receipt comes later in a run than the receipt that it waits behind.
use Rattle.history_audit.proofs.ExplainedLemmas.{cycle_unexplained}
use Rattle.history_audit.proofs.laws.cycle_is_not_explained.Goals as goal

pub returns : goal.returns
returns c = cycle_unexplained c.legal_by_positions.ensures
