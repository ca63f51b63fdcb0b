-- A stub is that of an emission without a reception.
use Rattle.run_chart.proofs.ShownLemmas.{stub_shown}
use Rattle.run_chart.proofs.laws.stubs_are_missing.Goals as goal

pub returns : goal.returns
returns c = stub_shown
