-- The events under the key before the position are gathered.
use Rattle.std.proofs.Common.{◌-◌, length}
use Rattle.run_index.proofs.WalkLemmas.{IsAt}
use Rattle.run_index.proofs.index.RunIndex.enactment.Given as goal

abbrev pub invariant-loop-position : goal.invariant-loop-position
invariant-loop-position l = IsAt l.self l.key l.position l.events

abbrev pub decreases-loop-position : goal.decreases-loop-position
decreases-loop-position l = length l.self - l.position
