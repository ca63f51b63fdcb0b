-- The first role's desk is in its place, and its passes are joined.
use Rattle.std.proofs.Common.{◌≡◌, ◌∙◌, List, ap, length, refl, subst, sym, ℕ}
use Rattle.std.specs.Prelude.{replicate, slice_set}
use Rattle.adapter.specs.Desk.{DeskState}
use Rattle.adapter.specs.State.{StateView}
use Rattle.reorder_net.specs.declared.passes.RolePasses.{RolePasses}
use Rattle.reorder_net.specs.Pass.{BoxId}
use Rattle.world_run.specs.inner.Released.{HaveJoined}
use Rattle.world_run.proofs.ReleaseLemmas.{Begins, joined_first}
use Rattle.world_run.proofs.joined_desks.JoinedDesks.of.Goals as goal

pub invariant_of-result : goal.invariant_of-result
invariant_of-result g c =
    let job = g.N.Scene.job in
    let boxes = g.M.Mail.boxes in
    let s : StateView = c.into_state.result in
    let zeros : List ℕ = replicate 8 0 in
    let own = c.close-desk.ensures in
    let places : c.put_desk.new.places ≡ slice_set c.args.places 0 s.desk = c.put_desk.ensures.places ∙ ap (slice_set c.args.places 0) own.0 in
    let counts : c.put_desk.new.joined ≡ slice_set zeros 0 (length s.desk.store.entries) = c.put_desk.ensures.joined ∙ ap (λ (y : List ℕ × DeskState). slice_set y.0 0 (length y.1.store.entries)) (λ i. (c.none-joined.ensures i, own.0 i)) in
    let begins : Begins boxes s.passes c.first-passes.result = subst (λ (y : List BoxId × RolePasses). Begins y.0 y.1 c.first-passes.result) (λ i. (c.requires.post i, own.1 i)) c.first-passes.ensures in
    let joined = joined_first job boxes c.args.places zeros c.first-passes.result s c.requires.places refl c.into_state.ensures.kept begins in
    subst (λ (y : List DeskState × List ℕ). HaveJoined job boxes 1 y.0 y.1 c.first-passes.result) (λ i. (sym places i, sym counts i)) joined
