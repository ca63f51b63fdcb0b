-- What the loop of `walk` keeps, and why it ends.
use Rattle.std.proofs.Common.{◌≡◌}
use Rattle.reference_graph.specs.inner.Search.{IsSearching, remaining}
use Rattle.reference_graph.proofs.traversal.walk.Given as goal

-- the search from the start goes on
abbrev pub invariant-steps : goal.invariant-steps
invariant-steps l = IsSearching l.graph l.search × (l.search.start ≡ l.start)

-- how many turns there may be
abbrev pub decreases-steps : goal.decreases-steps
decreases-steps l = remaining l.graph l.search
