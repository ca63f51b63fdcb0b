-- The envelope was posted to the role, and stands in its inbox afterwards.
use Rattle.std.proofs.Common.{◌≡◌, ℕ, true, ap, sym, subst}
use Rattle.std.proofs.lemmas.Result.{IfOk-at_ok}
use Rattle.bspl_types.specs.declared.envelope.Envelope.{Envelope}
use Rattle.local_store.specs.State.{StoreState}
use Rattle.reorder_net.specs.Mail.{IsPosted}
use Rattle.adapter.specs.Kept.{IsFor, IsKept}
use Rattle.adapter.specs.State.{StateView, IsStateKept}
use Rattle.adapter.specs.Steps.{AcceptsEnvelope}
use Rattle.adapter.proofs.IntakeLemmas.{moved_keeps, posted_here, put_kept_last, room_keeps}
use Rattle.adapter.proofs.PostedLemmas.{is_for}
use Rattle.adapter.proofs.StateLemmas.{own_pass}
use Rattle.adapter.proofs.intake.take_in.Goals as goal

pub take-requires-clause-takes : goal.take-requires-clause-takes
take-requires-clause-takes g c =
    subst (λ (s : StateView). s.passes.own.hold.takes ≡ true) (sym c.state.view_is) (ap (λ h. h.takes) (own_pass _ _ _ _ c.requires.kept).1)

pub deliver-requires-clause-own : goal.deliver-requires-clause-own
deliver-requires-clause-own g c some =
    let job = c.args.job.now in
    let boxes = c.args.post.now in
    let s : StateView = record { desk = c.state.inside.desk; passes = c.state.inside.passes } in
    let kept = subst (λ (x : StateView). IsStateKept job x.desk.store.role boxes x) (sym c.state.view_is) c.requires.kept in
    let posted = posted_here g.N.Scene.job job s.desk.store.role boxes s c.in-Some.parcel c.requires.scene kept c.in-Some.ensures.1 in
    let own = subst (λ (x : StoreState). IsFor job x.role c.in-Some.parcel) (sym c.make_room.ensures.same.0) (is_for job c.in-Some.parcel.from s.desk.store.role c.in-Some.parcel posted) in
    subst (λ (e : Envelope). IsFor job c.make_room.new.desk.store.role e) (sym c.envelope.ensures) own

pub returns-clause-kept : goal.returns-clause-kept
returns-clause-kept g c =
    let job = c.args.job.now in
    let boxes = c.args.post.now in
    let e = c.in-Some.parcel in
    let room = c.make_room.new.desk in
    let desk = c.deliver.new.desk in
    let s : StateView = record { desk = c.state.inside.desk; passes = c.state.inside.passes } in
    let role : ℕ = s.desk.store.role in
    let kept = subst (λ (x : StateView). IsStateKept job x.desk.store.role boxes x) (sym c.state.view_is) c.requires.kept in
    let posted : IsPosted job e.from role e = posted_here g.N.Scene.job job role boxes s e c.requires.scene kept c.in-Some.ensures.1 in
    let more : IsStateKept job role boxes (record s { desk = room }) = room_keeps job role boxes s room kept c.make_room.ensures.kept c.make_room.ensures.same.0 c.make_room.ensures.same.1 in
    let here : IsKept job role desk = subst (λ (x : StoreState). IsKept job x.role desk) c.make_room.ensures.same.0 c.deliver.ensures.kept in
    let accepts : AcceptsEnvelope room e desk = subst (λ (x : Envelope). AcceptsEnvelope room x desk) c.envelope.ensures (IfOk-at_ok (λ _. AcceptsEnvelope room c.envelope.result.now desk) c.unwrap.ensures c.deliver.ensures.ok) in
    let new = moved_keeps job role boxes (record s { desk = room }) e desk c.take.new.passes more posted c.in-Some.ensures.0 here accepts.store (put_kept_last room.inbox.envelopes desk.inbox.envelopes e posted.some accepts.envelopes) in
    subst (λ (x : StateView). IsStateKept job x.desk.store.role boxes (record { desk = desk; passes = c.take.new.passes })) c.state.view_is new
