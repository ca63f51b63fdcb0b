-- What the loop of `own_messages` keeps.
use Rattle.std.proofs.Common.{◌≡◌, map, take}
use Rattle.protocol_limits.specs.Counts.{own_messages}
use Rattle.protocol_limits.proofs.weights.own_messages.Given as goal

-- the protocols that were passed
abbrev pub invariant-loop-protocol : goal.invariant-loop-protocol
invariant-loop-protocol l = l.weights ≡ map own_messages (take l.protocol-index l.protocols)
