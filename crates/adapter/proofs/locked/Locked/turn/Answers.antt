-- The steps of a turn, one after another.
use Rattle.std.proofs.Common.{Result, Ok, Err, inr, subst, sym}
use Rattle.std.specs.Prelude.{OnErr}
use Rattle.agent_scripts.specs.Job.{Job}
use Rattle.adapter.specs.State.{StateView}
use Rattle.adapter.specs.StateSteps.{EmitsNext, IsCutOff, IsUnposted, MovesIn}
use Rattle.adapter.proofs.locked.Locked.turn.Goals as goal

-- what holds of each result holds of an error
at_err : {X E : Type 0} (r : Result X E) (P : Type 0) → P → OnErr r P
at_err (Ok x) P p = tt
at_err (Err e) P p = p

pub returns-in_err-step_emit-clause-err : goal.returns-in_err-step_emit-clause-err
returns-in_err-step_emit-clause-err g c =
    let filled = c.drain.new.state in
    let unposted : IsUnposted c.args.worker.now c.args.self.now c.take.new.self c.take.new.state = record {
      same = c.take.ensures.same;
      filled = filled;
      moves = subst (λ (s : StateView). MovesIn 65536 s filled) c.self.view_is c.drain.ensures.moved;
      receipt = c.take.result;
      takes = c.take.ensures.taken;
    } in
    let cut : IsCutOff c.args.worker.now c.args.self.now c.take.new.self c.take.new.state = inr unposted in
    rw c.in_err-step_emit.ensures.err (at_err _ _ cut)

pub returns-clause-ok : goal.returns-clause-ok
returns-clause-ok g c =
    let filled = c.drain.new.state in
    record {
      same = c.take.ensures.same;
      filled = filled;
      moves = subst (λ (s : StateView). MovesIn 65536 s filled) c.self.view_is c.drain.ensures.moved;
      receipt = c.take.result;
      received = c.take.new.state;
      takes = c.take.ensures.taken;
      envelope = c.in_ok-step_emit.field-0;
      emits = subst (λ (j : Job). EmitsNext j c.args.n c.take.new.state c.in_ok-step_emit.field-0 c.step_emit.new.state) (sym c.requires.scene.0) c.in_ok-step_emit.ensures.ok;
    }
