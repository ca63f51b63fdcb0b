-- What has been added, item by item.
use Rattle.std.proofs.Common.{◌<◌, ◌-◌, List, subst, arith}
use Rattle.std.specs.Prelude.{OnOk}
use Rattle.bspl_parser.specs.declared.document.Declaration.{Declaration}
use Rattle.protocol_paths.specs.Flat.{private_entries}
use Rattle.protocol_paths.specs.Path.{message_paths}
use Rattle.protocol_paths.specs.Scope.{Scope, after}
use Rattle.protocol_paths.specs.inner.AddsEnds.{AddsEnds}
use Rattle.protocol_paths.specs.inner.Links.{step_of}
use Rattle.protocol_paths.specs.inner.ScopeOf.{protocols_of, scope_of}
use Rattle.protocol_paths.proofs.AddingLemmas.{on_ok}
use Rattle.protocol_paths.proofs.EndLemmas.{ends_all, ends_more, ends_skipped, ends_through}
use Rattle.protocol_paths.proofs.ends.+ends.Goals as goal

pub add_item-returns-in_default : goal.add_item-returns-in_default
add_item-returns-in_default t c =
    ends_skipped c.args.context.now (scope_of c.args.scope.now) c.args.position c.in-Reference.reference c.args.item.now c.args.ends.now c.in-Reference.is c.in_default.ensures

pub add_item-returns-in-Some : goal.add_item-returns-in-Some
add_item-returns-in-Some t c =
    let limit = c.args.context.now.limit in
    let protocols = protocols_of c.args.context.now in
    let scope = scope_of c.args.scope.now in
    let link = c.in-Some.link in
    let next = after scope (step_of link) in
    let old = c.args.ends.now in
    let new = c.add_linked.new.ends in
    let some : 0 < limit = omega arith in
    let shorter = c.shorter_context.result in
    on_ok c.add_linked.result
    (λ added. ends_through protocols scope limit c.args.position c.in-Reference.reference link c.args.item.now old new c.in-Reference.is some c.in-Some.ensures
    (subst (λ (ps : List Declaration). AddsEnds next (private_entries (limit - 1) ps next) (message_paths (limit - 1) ps link.target.now) old new) c.shorter_context.ensures.protocols
    (subst (λ n. AddsEnds next (private_entries n (protocols_of shorter) next) (message_paths n (protocols_of shorter) link.target.now) old new) c.shorter_context.ensures.limit added)))
    c.add_linked.ensures

pub add_linked-returns : goal.add_linked-returns
add_linked-returns t c =
    let limit = c.args.context.now.limit in
    let protocols = protocols_of c.args.context.now in
    subst (λ (s : Scope). OnOk c.add_ends.result (AddsEnds s (private_entries limit protocols s) (message_paths limit protocols s.protocol) c.args.ends.now c.add_ends.new.ends)) c.next_scope-next.ensures c.add_ends.ensures

pub add_ends-loop-index-preserved : goal.add_ends-loop-index-preserved
add_ends-loop-index-preserved t c =
    ends_more c.args.context.now.limit (protocols_of c.args.context.now) (scope_of c.args.scope.now) c.args.scope.now.protocol.now.body c.loop-index.index c.index-items-index.result c.args.ends.now c.loop-index.ends c.add_item.new.ends
    (rw c.as_slice-items.ensures at c.loop-index-test.true) (rw c.as_slice-items.ensures at c.index-items-index.is) c.loop-index.invariant c.in_ok-add_item.ensures

pub add_ends-returns : goal.add_ends-returns
add_ends-returns t c =
    ends_all c.args.context.now.limit (protocols_of c.args.context.now) (scope_of c.args.scope.now) c.loop-index.index c.args.ends.now c.loop-index.ends
    (rw c.as_slice-items.ensures at c.loop-index-test.false) c.loop-index.invariant
