-- What the loop of `followed_of` keeps.
use Rattle.std.proofs.Common.{◌≡◌, length}
use Rattle.protocol_limits.proofs.FollowedLemmas.{AreSkipped}
use Rattle.protocol_limits.proofs.followed.followed_of.Given as goal

-- the protocols of the order that were passed have their flags
abbrev pub invariant-loop-number : goal.invariant-loop-number
invariant-loop-number l = record {
  fits : length l.followed.items ≡ length l.document-inside.table.now.protocols.now;
  skipped : AreSkipped l.document-inside.order.now l.counts l.followed.items l.number-index;
}
