-- Reading stops at one line.
use Rattle.dimacs.proofs.StopLemmas.{one_stop}
use Rattle.dimacs.proofs.laws.stops_once.Goals as goal

pub returns : goal.returns
returns c = one_stop
