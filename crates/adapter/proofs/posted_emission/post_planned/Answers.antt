-- The pass to the receiver's mailbox puts, and has put the envelope afterwards.
use Rattle.std.proofs.Common.{◌≡◌, ◌<◌, slice_get, Some, subst, sym, arith}
use Rattle.std.proofs.lemmas.Result.{on_ok_weaker}
use Rattle.bspl_types.specs.declared.envelope.Envelope.{Envelope}
use Rattle.reorder_net.specs.Pass.{IsSender, PassState}
use Rattle.reorder_net.specs.Passes.{with_put}
use Rattle.adapter.proofs.MailedLemmas.{can_put, put_passes}
use Rattle.adapter.proofs.posted_emission.post_planned.Goals as goal

pub put-requires-clause-pass : goal.put-requires-clause-pass
put-requires-clause-pass g c =
    let some : 0 < c.args.e.now.copies = omega arith in
    let can = can_put c.args.post.now c.requires.passes.0 c.requires.passes.1 c.args.e.now c.args.passes.now (c.requires.known some) c.requires.passes.2 in
    subst (λ (x : Envelope). (p : PassState) → slice_get c.args.passes.now.puts x.to ≡ Some p → (slice_get c.args.post.now x.to ≡ Some p.box) × IsSender x.to x.from p) (sym c.in_ok-parcel.ensures) can

pub returns-clause-ok : goal.returns-clause-ok
returns-clause-ok g c =
    let some : 0 < c.args.e.now.copies = omega arith in
    let old = c.args.passes.now in
    let new = c.put.new.passes in
    on_ok_weaker c.put.result (λ put sent taken are. put_passes c.args.post.now sent taken c.args.e.now old new (c.requires.known some) some are
    (subst (λ (x : Envelope). (p : PassState) → slice_get old.puts x.to ≡ Some p → new ≡ with_put old p x) c.in_ok-parcel.ensures put)) c.put.ensures.ok
