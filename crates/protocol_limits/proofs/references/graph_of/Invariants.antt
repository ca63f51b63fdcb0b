-- What the loop of `graph_of` keeps.
use Rattle.std.proofs.Common.{◌≡◌, map, take}
use Rattle.protocol_limits.specs.Graph.{references_of}
use Rattle.protocol_limits.proofs.references.graph_of.Given as goal

-- the references of the protocols that were passed
abbrev pub invariant-loop-protocol : goal.invariant-loop-protocol
invariant-loop-protocol l = l.lists ≡ map (references_of l.table.protocols.now) (take l.protocol-index l.protocol-items)
