-- The state stays kept when its desk takes.
use Rattle.std.proofs.Common.{List, subst}
use Rattle.reorder_net.specs.Pass.{BoxId}
use Rattle.adapter.specs.State.{StateView, IsStateKept}
use Rattle.adapter.proofs.StateLemmas.{taken_keeps}
use Rattle.adapter.proofs.reception.step_take.Goals as goal

pub returns-clause-kept : goal.returns-clause-kept
returns-clause-kept c =
    let job = c.args.job.now in
    let s : StateView = record { desk = c.state.inside.desk; passes = c.state.inside.passes } in
    let d = c.desk_take.new.desk in
    subst (λ (x : StateView). (boxes : List BoxId) → IsStateKept job x.desk.store.role boxes x → IsStateKept job x.desk.store.role boxes (record { desk = d; passes = s.passes })) c.state.view_is
    (λ boxes kept. taken_keeps job s.desk.store.role boxes s d c.args.rng.now c.desk_take.result kept c.desk_take.ensures.kept c.desk_take.ensures.taken)
