-- The turns at the numbers up to the index.
use Rattle.std.proofs.Common.{◌≡◌, ◌+◌, Some, slice_get}
use Rattle.adapter.specs.Desk.{DeskState}
use Rattle.world_run.specs.Course.{AreSteps, IsTurn, state}
use Rattle.world_run.specs.inner.Idle.{IsIdleAt}
use Rattle.world_run.proofs.RoundLemmas.{StepsTo}
use Rattle.world_run.proofs.rounds.turns.Given as goal

abbrev pub invariant-loop-index : goal.invariant-loop-index
invariant-loop-index l = record { steps : StepsTo (λ ds k. (d : DeskState) → slice_get ds l.role ≡ Some d → IsIdleAt l.job d (k + 1)) l.job l.fn.desks l.acted l.desks l.index; course : AreSteps (λ k. IsTurn l.job l.role (k + 1)) l.index (state l.fn.desks l.fn.rng) (state l.desks l.rng) }
