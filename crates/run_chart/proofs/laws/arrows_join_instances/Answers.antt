-- An arrow is that of a reception.
use Rattle.run_chart.proofs.ShownLemmas.{arrow_shown}
use Rattle.run_chart.proofs.laws.arrows_join_instances.Goals as goal

pub returns : goal.returns
returns c = arrow_shown
