-- Each event has a line of its own.
use Rattle.run_text.proofs.EventCount.{events_in_text}
use Rattle.run_text.proofs.laws.events_are_fewer_than_bytes.Goals as goal

pub returns : goal.returns
returns c = events_in_text
