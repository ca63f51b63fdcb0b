-- The state is kept, and so many envelopes at most were moved.
use Rattle.adapter.specs.State.{IsStateKept}
use Rattle.adapter.specs.StateSteps.{MovesIn}
use Rattle.adapter.proofs.intake.drain.Given as goal

abbrev pub invariant-loop-i : goal.invariant-loop-i
invariant-loop-i g l = record {
  kept : IsStateKept l.fn.job l.fn.state.desk.store.role l.fn.post l.state;
  moved : MovesIn l._i l.fn.state l.state;
}
