-- Each event has one mark.
use Rattle.std.specs.List.{enumerate_from}
use Rattle.run_chart.proofs.ShownLemmas.{marks_each}
use Rattle.run_chart.proofs.laws.marks_are_the_events.Goals as goal

pub returns : goal.returns
returns c = λ x run. marks_each x run (enumerate_from 0 run)
