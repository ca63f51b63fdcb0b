-- The rule was told of the passes that are not left.
use Rattle.std.proofs.Common.{◌≡◌, List, ◌++◌, length, All}
use Rattle.reorder_net.specs.Pass.{PassState}
use Rattle.reorder_net.specs.inner.Moves.{IsToldTo}
use Rattle.reorder_net.proofs.post.Post.tell.Given as goal

abbrev pub invariant-loop-pass : goal.invariant-loop-pass
invariant-loop-pass g l = (rest : List PassState) × (l.fn.gathered ≡ l.gathered ++ rest) × All (λ p. IsToldTo g.N.Scene.job p.hold) rest

abbrev pub decreases-loop-pass : goal.decreases-loop-pass
decreases-loop-pass g l = length l.gathered
