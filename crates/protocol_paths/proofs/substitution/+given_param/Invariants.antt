-- How far the recursion may go.
use Rattle.std.proofs.Common.{length}
use Rattle.protocol_paths.proofs.substitution.+given_param.Given as goal

abbrev pub decreases-given_param : goal.decreases-given_param
decreases-given_param l = length l.links.now
