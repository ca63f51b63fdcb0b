-- The state behind the lock had the turn.
use Rattle.std.proofs.Common.{◌≡◌, ℕ, List, Result, subst, sym}
use Rattle.std.specs.Prelude.{OnErr, OnOk}
use Rattle.agent_scripts.specs.Job.{Job}
use Rattle.reorder_net.specs.Pass.{BoxId}
use Rattle.adapter.specs.State.{IsStateKept, StateView}
use Rattle.adapter.specs.StateSteps.{HasHadTurn, IsCutOff, IsRoleTurn}
use Rattle.adapter.specs.Worker.{WorkerState}
use Rattle.world_run.proofs.role_lock.RoleLock.turn.Goals as goal

-- what the turn of a kept state of the worker's role says
had : {X E : Type 0} (job : Job) (own : ℕ) (boxes : List BoxId) (n : ℕ) (worker : WorkerState) (result : Result X E) (next : WorkerState) (old new : StateView) → worker.role ≡ own → IsStateKept job own boxes old → OnOk result (IsRoleTurn job n worker old next new) → OnErr result (IsCutOff worker old next new) → HasHadTurn job worker.role boxes n worker result next
had job own boxes n worker result next old new is kept ok err = record {
  old = old;
  kept = subst (λ (role : ℕ). IsStateKept job role boxes old) (sym is) kept;
  new = new;
  ok = ok;
  err = err;
}

pub returns : goal.returns
returns g c = had _ _ _ _ _ _ _ _ _ c.requires.own c.turn.ensures.kept c.turn.ensures.ok c.turn.ensures.err
