-- The law on what a report shows, from its lemma.
use Rattle.first_occurrences.proofs.ShownLemmas.{reports_show}
use Rattle.first_occurrences.proofs.laws.reports_show.Goals as goal

pub returns : goal.returns
returns c = reports_show
