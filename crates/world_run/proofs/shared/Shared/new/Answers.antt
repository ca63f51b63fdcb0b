-- No desk is locked yet.
use Rattle.std.proofs.Common.{List, lit<, subst, sym}
use Rattle.agent_scripts.specs.Job.{Job}
use Rattle.reorder_net.specs.Pass.{BoxId}
use Rattle.world_run.specs.Shared.{AreNewPasses}
use Rattle.world_run.specs.inner.Opened.{AreOpened}
use Rattle.world_run.proofs.LockLemmas.{all_unlocked}
use Rattle.world_run.proofs.shared.Shared.new.Goals as goal

pub lock_last-role7-requires : goal.lock_last-role7-requires
lock_last-role7-requires g c =
    let job = g.N.Scene.job in
    let boxes = g.M.Mail.boxes in
    let opened = subst (λ (j : Job). AreOpened j c.in_ok-desks.desks) (sym c.requires.job) c.in_ok-desks.ensures in
    let new = subst (λ (y : Job × List BoxId). AreNewPasses y.0 y.1 c.args.passes) (λ i. (sym c.requires.job i, c.requires.post i)) c.requires.passes in
    (lit< tt, all_unlocked job boxes c.in_ok-desks.desks c.args.passes opened new)
