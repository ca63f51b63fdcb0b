-- By the list of paths from each protocol.
use Rattle.protocol_paths.proofs.PathOrderLemmas.{paths_listed}
use Rattle.protocol_paths.proofs.laws.paths_are_all.Goals as goal

pub returns : goal.returns
returns c = paths_listed
