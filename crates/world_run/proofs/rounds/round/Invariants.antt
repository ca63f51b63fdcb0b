-- The steps of the roles before the index.
use Rattle.world_run.specs.Course.{AreSteps, AreTurns, state}
use Rattle.world_run.specs.inner.Idle.{IsIdleRole}
use Rattle.world_run.proofs.RoundLemmas.{StepsTo}
use Rattle.world_run.proofs.rounds.round.Given as goal

abbrev pub invariant-loop-role : goal.invariant-loop-role
invariant-loop-role l = record { steps : StepsTo (λ ds k. IsIdleRole l.job ds k) l.job l.fn.desks l.acted l.desks l.role; course : AreSteps (AreTurns l.job) l.role (state l.fn.desks l.fn.rng) (state l.desks l.rng) }
