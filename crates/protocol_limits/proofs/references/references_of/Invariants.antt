-- What the loop of `references_of` keeps.
use Rattle.std.proofs.Common.{◌≡◌, take}
use Rattle.std.specs.List.{filter_map}
use Rattle.protocol_limits.specs.Graph.{target_of}
use Rattle.protocol_limits.proofs.references.references_of.Given as goal

-- the references of the items that were passed
abbrev pub invariant-loop-item : goal.invariant-loop-item
invariant-loop-item l = l.numbers ≡ filter_map (target_of l.table.protocols.now) (take l.item-index l.item-items)
