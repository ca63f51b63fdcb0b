-- The lowest role of all points.
use Rattle.std.proofs.Common.{arith}
use Rattle.history_audit.proofs.RingLemmas.{lowest_of_all, lowest_start}
use Rattle.history_audit.proofs.cycle.lowest_role.Goals as goal

pub loop-index-init : goal.loop-index-init
loop-index-init c = lowest_start c.args.points.now c.requires

pub returns : goal.returns
returns c = lowest_of_all c.args.points.now c.loop-index.index c.loop-index.lowest (omega arith) c.loop-index.invariant
