-- All roles' desks are in their places, and the rules have told what explains their receipts.
use Rattle.std.proofs.Common.{◌∙◌, List, length, subst}
use Rattle.reorder_net.specs.Pass.{BoxId}
use Rattle.world_run.specs.inner.Released.{HaveJoined}
use Rattle.world_run.proofs.ReleaseLemmas.{released_kept, released_world, Tells}
use Rattle.world_run.proofs.WorldLemmas.{of_one}
use Rattle.world_run.proofs.joined_desks.JoinedDesks.into_world.Goals as goal

pub invariant_of-result : goal.invariant_of-result
invariant_of-result g c =
    let job = g.N.Scene.job in
    let boxes = g.M.Mail.boxes in
    let old = c.self.inside in
    let joined : HaveJoined job boxes (length job.protocol.roles) old.places old.joined old.passes = subst (λ n. HaveJoined job boxes n old.places old.joined old.passes) (c.self.view_is ∙ c.requires.all) c.self.invariant in
    of_one job old.places (released_kept job boxes old.places old.joined old.passes joined)

pub returns : goal.returns
returns g c =
    let job = g.N.Scene.job in
    let boxes = g.M.Mail.boxes in
    let old = c.self.inside in
    let joined : HaveJoined job boxes (length job.protocol.roles) old.places old.joined old.passes = subst (λ n. HaveJoined job boxes n old.places old.joined old.passes) (c.self.view_is ∙ c.requires.all) c.self.invariant in
    let tells : Tells job boxes old.passes = subst (λ (b : List BoxId). Tells job b old.passes) c.requires.post c.tell.ensures in
    released_world c.told_histories_explain.ensures job boxes old.places old.joined old.passes joined tells
