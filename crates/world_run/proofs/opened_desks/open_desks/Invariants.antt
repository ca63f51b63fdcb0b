-- The desks of the roles before the index are opened.
use Rattle.world_run.proofs.OpenLemmas.{OpenedTo}
use Rattle.world_run.proofs.opened_desks.open_desks.Given as goal

abbrev pub invariant-loop-role : goal.invariant-loop-role
invariant-loop-role l = OpenedTo l.job l.desks l.role
