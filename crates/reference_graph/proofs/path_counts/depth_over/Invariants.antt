-- What the loop of `depth_over` keeps.
use Rattle.std.proofs.Common.{◌≡◌, ◌+◌, take, map, slice_index_or}
use Rattle.reference_graph.specs.PathCounts.{greatest}
use Rattle.reference_graph.proofs.path_counts.depth_over.Given as goal

-- the depth over the indices that were passed
abbrev pub invariant-loop-index : goal.invariant-loop-index
invariant-loop-index l =
    l.depth ≡ greatest (map (λ index. slice_index_or l.numbers index 0 + 1) (take l.index-index l.indices))
