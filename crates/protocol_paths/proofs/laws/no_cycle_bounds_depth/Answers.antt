-- Distinct targets are at most as many as the protocols.
use Rattle.protocol_paths.proofs.DepthLemmas.{no_cycle_within}
use Rattle.protocol_paths.proofs.laws.no_cycle_bounds_depth.Goals as goal

pub returns : goal.returns
returns c = no_cycle_within
