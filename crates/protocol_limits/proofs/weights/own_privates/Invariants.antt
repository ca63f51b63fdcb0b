-- What the loop of `own_privates` keeps.
use Rattle.std.proofs.Common.{◌≡◌, map, take}
use Rattle.protocol_limits.specs.Counts.{own_privates}
use Rattle.protocol_limits.proofs.weights.own_privates.Given as goal

-- the protocols that were passed
abbrev pub invariant-loop-protocol : goal.invariant-loop-protocol
invariant-loop-protocol l = l.weights ≡ map own_privates (take l.protocol-index l.protocols)
