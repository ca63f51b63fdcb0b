-- By what is known of a history.
use Rattle.message_fates.proofs.ReachLemmas.{reached_if_enactable}
use Rattle.message_fates.proofs.laws.enactable_is_reached.Goals as goal

pub returns : goal.returns
returns c = reached_if_enactable c.known_exactly_if_some_event_binds.ensures.known c.known_exactly_if_some_event_binds.ensures.history
