-- What the loop of `first_oversized_in` keeps.
use Rattle.std.proofs.Common.{◌≡◌, None, drop, slice_index_or}
use Rattle.protocol_limits.specs.inner.Oversized.{first_oversized_in}
use Rattle.protocol_limits.proofs.oversized.first_oversized_in.Given as goal

-- nothing was found of the items that were passed
abbrev pub invariant-loop-item : goal.invariant-loop-item
invariant-loop-item l =
    first_oversized_in l.table.protocols.now (λ k. slice_index_or l.counts k None) (drop l.item-index l.body)
    ≡ first_oversized_in l.table.protocols.now (λ k. slice_index_or l.counts k None) l.body
