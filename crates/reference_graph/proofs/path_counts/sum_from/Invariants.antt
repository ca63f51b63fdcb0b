-- What the loop of `sum_from` keeps.
use Rattle.std.proofs.Common.{◌≡◌, ◌+◌, take, slice_index_or}
use Rattle.std.specs.List.{sum_by}
use Rattle.reference_graph.specs.PathCounts.{saturated}
use Rattle.reference_graph.proofs.path_counts.sum_from.Given as goal

-- the sum over the indices that were passed
abbrev pub invariant-loop-index : goal.invariant-loop-index
invariant-loop-index l =
    l.sum ≡ saturated (l.own + sum_by (λ index. slice_index_or l.numbers index 0) (take l.index-index l.indices))
