-- Nothing is emitted if no message is ready.
use Rattle.std.proofs.Common.{None, subst, refl}
use Rattle.adapter.specs.State.{StateView}
use Rattle.adapter.specs.Steps.{IsNextEnvelope}
use Rattle.adapter.proofs.posted_emission.step_emit.Goals as goal

pub returns-in_default-clause-ok : goal.returns-in_default-clause-ok
returns-in_default-clause-ok g c = record {
  next = subst (λ (x : StateView). IsNextEnvelope c.args.job.now x.desk.store c.args.n None) c.state.view_is c.in_default.ensures;
  desk = refl;
  taken = refl;
}
