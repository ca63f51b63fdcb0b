-- What the entries before the index emit was posted.
use Rattle.world_run.proofs.UndeliveredLemmas.{PostedTo}
use Rattle.world_run.proofs.inboxes.post_all.Given as goal

abbrev pub invariant-loop-index : goal.invariant-loop-index
invariant-loop-index l = PostedTo l.job l.fn.desks l.desks l.role l.index
