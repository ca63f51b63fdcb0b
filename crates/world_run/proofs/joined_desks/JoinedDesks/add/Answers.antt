-- The next role's desk is in its place, and its passes are joined to the others.
use Rattle.std.proofs.Common.{◌≡◌, ◌∙◌, ◌+◌, ◌<◌, List, Option, Some, ap, arith, length, refl, subst, sym, take, ℕ, IsSome}
use Rattle.std.specs.Prelude.{slice_set}
use Rattle.adapter.specs.Desk.{DeskState}
use Rattle.adapter.specs.State.{StateView}
use Rattle.reorder_net.specs.declared.passes.RolePasses.{RolePasses}
use Rattle.reorder_net.specs.Gathered.{AreGathered}
use Rattle.reorder_net.specs.Pass.{BoxId, PassState}
use Rattle.world_run.specs.inner.Released.{HaveJoined}
use Rattle.world_run.specs.inner.Locks.{HasLock}
use Rattle.world_run.specs.Told.{posted_to}
use Rattle.world_run.proofs.ReleaseLemmas.{joined_gathered, joined_more, Gathers}
use Rattle.world_run.proofs.joined_desks.JoinedDesks.add.Goals as goal

-- a lock is there, so the role is
there : {X : Type 0} (role roles : ℕ) (lock : Option X) (x : X) → HasLock role roles lock → lock ≡ Some x → role < roles
there role roles lock x has is = has.1 (subst IsSome (sym is) refl)

pub gather-requires-clause-known : goal.gather-requires-clause-known
gather-requires-clause-known g c =
    let exists = there g.row.R (length g.N.Scene.job.protocol.roles) c.args.lock c.in-Some.lock c.requires.lock c.in-Some.is in
    (c.requires.next.0, omega (arith, exists, ap length c.requires.post, c.self.invariant.mailboxes))

pub gather-requires-clause-gathered : goal.gather-requires-clause-gathered
gather-requires-clause-gathered g c =
    let job = g.N.Scene.job in
    let boxes = g.M.Mail.boxes in
    let exists = there g.row.R (length job.protocol.roles) c.args.lock c.in-Some.lock c.requires.lock c.in-Some.is in
    let places = c.self.inside.places in
    let count : c.self.inside.count ≡ g.row.R = omega (arith, c.self.view_is, c.requires.next.1, exists) in
    let joined : HaveJoined job boxes g.row.R places c.self.inside.joined c.self.inside.passes = subst (λ n. HaveJoined job boxes n places c.self.inside.joined c.self.inside.passes) count c.self.invariant in (
      λ q. posted_to job q (take g.row.R places),
      joined.taken,
      subst (λ (b : List BoxId). AreGathered b (λ q. posted_to job q (take g.row.R places)) joined.taken g.row.R c.self.inside.passes) (sym c.requires.post) (joined_gathered job boxes g.row.R places c.self.inside.joined c.self.inside.passes joined),
    )

pub invariant_of-self : goal.invariant_of-self
invariant_of-self g c =
    let job = g.N.Scene.job in
    let boxes = g.M.Mail.boxes in
    let exists = there g.row.R (length job.protocol.roles) c.args.lock c.in-Some.lock c.requires.lock c.in-Some.is in
    let s : StateView = c.into_state.result in
    let own = c.close-desk.ensures in
    let old = c.self.inside in
    let new : List PassState = c.gather.new.gathered in
    let count : old.count ≡ g.row.R = omega (arith, c.self.view_is, c.requires.next.1, exists) in
    let joined : HaveJoined job boxes g.row.R old.places old.joined old.passes = subst (λ n. HaveJoined job boxes n old.places old.joined old.passes) count c.self.invariant in
    let places : c.put_desk.new.places ≡ slice_set old.places g.row.R s.desk = c.put_desk.ensures.places ∙ ap (slice_set old.places g.row.R) own.0 in
    let counts : c.put_desk.new.joined ≡ slice_set old.joined g.row.R (length s.desk.store.entries) = c.put_desk.ensures.joined ∙ ap (λ (d : DeskState). slice_set old.joined g.row.R (length d.store.entries)) own.0 in
    let gathers : Gathers boxes g.row.R old.passes s.passes new = subst (λ (y : List BoxId × RolePasses). Gathers y.0 g.row.R old.passes y.1 new) (λ i. (c.requires.post i, own.1 i)) c.gather.ensures in
    let more = joined_more job boxes g.row.R old.places old.joined old.passes new s joined exists c.into_state.ensures.kept gathers in
    subst (λ (y : List DeskState × List ℕ). HaveJoined job boxes (g.row.R + 1) y.0 y.1 new) (λ i. (sym places i, sym counts i)) more
