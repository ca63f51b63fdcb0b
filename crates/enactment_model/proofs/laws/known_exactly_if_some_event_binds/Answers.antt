-- The law on knowledge, from its lemmas.
use Rattle.enactment_model.proofs.KnowledgeLemmas.{binding_from_known, history_is_run, known_from_binding}
use Rattle.enactment_model.proofs.laws.known_exactly_if_some_event_binds.Goals as goal

pub returns : goal.returns
returns c = record { known = λ x history key p is_run. (binding_from_known x history key p, known_from_binding x history key p is_run); history = history_is_run }
