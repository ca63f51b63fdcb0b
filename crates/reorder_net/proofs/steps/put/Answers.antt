-- A sender may put what may be posted.
use Rattle.std.proofs.Common.{sym, subst, ap, ◌∙◌}
use Rattle.crossbeam_queue.specs.Fifo.{Pushes}
use Rattle.reorder_net.specs.declared.hold.Hold.{Hold}
use Rattle.reorder_net.specs.Mail.{IsMail}
use Rattle.reorder_net.specs.inner.Moves.{HasPut}
use Rattle.reorder_net.proofs.QueueLemmas.{pushes}
use Rattle.reorder_net.proofs.steps.put.Goals as goal

pub push_as-requires-clause-rule : goal.push_as-requires-clause-rule
push_as-requires-clause-rule g c n =
    let is = ap (λ s. s.hold) c.pass.view_is ∙ c.requires.view in
    subst (λ (v : Hold). Pushes (IsMail g.N.Scene.job) n c.pass.inside.seat.id v c.args.e (HasPut v c.args.e)) (sym is) (pushes _ _ _ _ _ _ _ c.requires.posted)
