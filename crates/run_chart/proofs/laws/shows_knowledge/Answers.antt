-- The value shown as known is known, and without one none is.
use Rattle.run_chart.proofs.KnownLemmas.{shown_known}
use Rattle.run_chart.proofs.laws.shows_knowledge.Goals as goal

pub returns : goal.returns
returns c = shown_known
