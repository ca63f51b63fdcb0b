-- The run of a model, from its lemmas.
use Rattle.witness_replay.proofs.LegalLemmas.{run_is_legal}
use Rattle.witness_replay.proofs.ModelLemmas.{has_run, is_under_ones}
use Rattle.witness_replay.proofs.laws.shared_model_has_run.Goals as goal

pub returns-clause-run : goal.returns-clause-run
returns-clause-run c = has_run c.legal_by_positions.ensures c.known_exactly_if_some_event_binds.ensures.known c.known_exactly_if_some_event_binds.ensures.history

pub returns-clause-ones : goal.returns-clause-ones
returns-clause-ones c = is_under_ones

pub returns-clause-legal : goal.returns-clause-legal
returns-clause-legal c = run_is_legal c.legal_by_positions.ensures c.known_exactly_if_some_event_binds.ensures.known c.known_exactly_if_some_event_binds.ensures.history
