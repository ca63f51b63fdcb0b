-- The passes that are not left were taken in.
use Rattle.std.proofs.Common.{◌≡◌, List, ◌++◌, length}
use Rattle.reorder_net.specs.Pass.{PassState}
use Rattle.reorder_net.specs.inner.Joins.{HaveTakenIn}
use Rattle.reorder_net.proofs.post.Post.join_puts.Given as goal

abbrev pub invariant-loop-pass : goal.invariant-loop-pass
invariant-loop-pass g l = (rest : List PassState) × (l.fn.puts ≡ l.puts ++ rest) × HaveTakenIn (length l.puts) l.fn.gathered l.fn.puts l.gathered

abbrev pub decreases-loop-pass : goal.decreases-loop-pass
decreases-loop-pass g l = length l.puts
