-- What the roles before the index emit was posted.
use Rattle.world_run.proofs.UndeliveredLemmas.{Renewed}
use Rattle.world_run.proofs.inboxes.renew_inboxes.Given as goal

abbrev pub invariant-loop-role : goal.invariant-loop-role
invariant-loop-role l = Renewed l.job l.fn.desks l.desks l.role
