-- How far the context may go, and what has been added.
use Rattle.std.proofs.Common.{◌+◌, ◌*◌, ◌++◌, take}
use Rattle.std.specs.List.{flat_map}
use Rattle.protocol_paths.specs.Flat.{privates_at}
use Rattle.protocol_paths.specs.Path.{item_messages, numbered_items}
use Rattle.protocol_paths.specs.inner.AddsEnds.{AddsEnds, item_entries}
use Rattle.protocol_paths.specs.inner.ScopeOf.{protocols_of, scope_of}
use Rattle.protocol_paths.proofs.ends.+ends.Given as goal

abbrev pub decreases-add_ends : goal.decreases-add_ends
decreases-add_ends l = 3 * l.context.now.limit + 2

abbrev pub decreases-add_item : goal.decreases-add_item
decreases-add_item l = 3 * l.context.now.limit + 1

abbrev pub decreases-add_linked : goal.decreases-add_linked
decreases-add_linked l = 3 * l.context.now.limit + 3

-- those of the protocol itself, and those through the items so far
abbrev pub invariant-add_ends-loop-index : goal.invariant-add_ends-loop-index
invariant-add_ends-loop-index l =
    AddsEnds (scope_of l.scope)
    (privates_at (scope_of l.scope) ++ flat_map (item_entries l.context.limit (protocols_of l.context) (scope_of l.scope)) (take l.index (numbered_items l.scope.protocol.now)))
    (flat_map (item_messages l.context.limit (protocols_of l.context)) (take l.index (numbered_items l.scope.protocol.now)))
    l.fn.ends l.ends
