-- The law is its lemma.
use Rattle.run_text.proofs.EventLemmas.{event_lacks}
use Rattle.run_text.proofs.laws.events_are_lines.Goals as goal

pub returns : goal.returns
returns c = event_lacks
