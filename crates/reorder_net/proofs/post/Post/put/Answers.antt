-- The pass is the one to the receiver's mailbox, and a refused push leaves each pass as it was.
use Rattle.std.proofs.Common.{◌≡◌, slice_get, Some, subst}
use Rattle.bspl_types.specs.declared.envelope.Envelope.{Envelope}
use Rattle.reorder_net.proofs.PassLemmas.{kept_passes}
use Rattle.reorder_net.proofs.post.Post.put.Goals as goal

pub put-requires-clause-pass : goal.put-requires-clause-pass
put-requires-clause-pass g c =
    let pass = subst (λ (x : Envelope). slice_get c.args.passes.now.puts x.to ≡ Some c.at_mut.result.now) c.envelope.ensures c.at_mut.ensures.item in
    let box = subst (λ (x : Envelope). slice_get c.args.self.now x.to ≡ Some c.at.result.now) c.envelope.ensures c.at.ensures in
    cc ((c.requires.pass _ pass).0, box)

pub returns-clause-err : goal.returns-clause-err
returns-clause-err g c = elim c.match-put.branch [
  | goal.in-Ok w ↦ rw w.result-is tt
  | goal.in-Err w ↦ rw w.result-is (kept_passes _ _ _ _ c.at_mut.ensures.item w.in-Err.ensures.view)
]
