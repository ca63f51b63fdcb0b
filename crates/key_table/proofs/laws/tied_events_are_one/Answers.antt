-- Events that tie are one event.
use Rattle.key_table.proofs.TieLemmas.{tied_event_is_one}
use Rattle.key_table.proofs.laws.tied_events_are_one.Goals as goal

pub returns : goal.returns
returns c = tied_event_is_one
