-- What the loop of `first_oversized` keeps.
use Rattle.std.proofs.Common.{◌≡◌, None, length}
use Rattle.list_base.proofs.Tables.{AreFilled}
use Rattle.protocol_limits.proofs.OversizedOrder.{oversized_at}
use Rattle.protocol_limits.proofs.oversized.first_oversized.Given as goal

-- the protocols of the order that were passed have what is found of them
abbrev pub invariant-loop-number : goal.invariant-loop-number
invariant-loop-number l = record {
  fits : length l.counts.items ≡ length l.document-inside.table.now.protocols.now;
  found : AreFilled None (oversized_at l.document-inside.table.now.protocols.now (length l.document-inside.table.now.protocols.now)) l.document-inside.order.now l.counts.items l.number-index;
}
