-- How far the recursion may go.
use Rattle.std.proofs.Common.{length}
use Rattle.protocol_paths.proofs.substitution.+given_role.Given as goal

abbrev pub decreases-given_role : goal.decreases-given_role
decreases-given_role l = length l.links.now
