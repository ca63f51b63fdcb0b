-- The desks before the index are emptied.
use Rattle.world_run.proofs.UndeliveredLemmas.{ClearedTo}
use Rattle.world_run.proofs.inboxes.clear_inboxes.Given as goal

abbrev pub invariant-loop-role : goal.invariant-loop-role
invariant-loop-role l = ClearedTo l.fn.desks l.desks l.role
