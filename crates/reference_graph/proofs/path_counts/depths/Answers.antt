-- The depths of the nodes, one after another.
use Rattle.std.proofs.Common.{◌≡◌, ◌+◌, ◌<◌, ◌≤◌, ℕ, List, Some, length, get_or, set, map, slice_get, sym, ap, ◌∙◌, subst, arith, All, length-set}
use Rattle.std.proofs.lemmas.List.Elements.{All-set, All-map, All-weaker}
use Rattle.std.proofs.lemmas.Option.{slice_get-get_or}
use Rattle.reference_graph.specs.PathCounts.{depth_within, greatest}
use Rattle.reference_graph.proofs.DepthLemmas.{greatest-le}
use Rattle.list_base.proofs.Tables.{AreFilled, AreFilled-more, all_filled, holds_of_list}
use Rattle.reference_graph.proofs.CountLemmas.{depth_is}
use Rattle.reference_graph.proofs.path_counts.depths.Goals as goal

pub loop-node-preserved : goal.loop-node-preserved
loop-node-preserved c =
    let g = c.args.graph.now in
    let order = c.args.order.now in
    let numbers = c.loop-node.depths.items in
    let i = c.loop-node.node-index in
    let a = get_or order i 0 in
    let at = slice_get-get_or order i 0 c.loop-node-test.true in
    let fits = c.loop-node.invariant.fits in
    let references = c.references.result.now in
    let over : c.depth_over-depth.result ≡ greatest (map (λ index. get_or numbers index 0 + 1) references) =
    c.depth_over-depth.ensures ∙ ap (λ (xs : List ℕ). greatest (map (λ index. get_or xs index 0 + 1) references)) c.deref.ensures.value in
    let depth : c.depth_over-depth.result ≡ depth_within (length g) g a =
    over ∙ ap (λ (bs : List ℕ). greatest (map (λ index. get_or numbers index 0 + 1) bs)) c.references.ensures.lists
    ∙ depth_is g order numbers i a c.requires at c.loop-node.invariant.found in
    let low : c.depth_over-depth.result ≤ i + 1 =
    subst (λ n. n ≤ i + 1) (sym over) (greatest-le (i + 1) (map (λ index. get_or numbers index 0 + 1) references)
    (All-map (λ n. n ≤ i + 1) (λ index. get_or numbers index 0 + 1) references
    (λ k d within. let node : get_or references k d < length numbers = omega (arith, c.references.ensures.nodes k d within, fits) in
    omega (arith, c.loop-node.invariant.small (get_or references k d) 0 node)))) in
    record {
      fits = length-set numbers a c.depth_over-depth.result ∙ fits;
      small = All-set (λ n. n ≤ i + 1) numbers a c.depth_over-depth.result low
          (All-weaker (λ n. n ≤ i) (λ n. n ≤ i + 1) (λ n small. omega arith) numbers c.loop-node.invariant.small);
      found = subst (λ n. AreFilled 0 (depth_within (length g) g) order (set numbers a n) (i + 1)) (sym depth)
          (AreFilled-more 0 (depth_within (length g) g) order numbers i a at (omega (arith, c.requires.nodes i 0 c.loop-node-test.true, fits)) c.loop-node.invariant.found);
    }

pub returns : goal.returns
returns c =
    let g = c.args.graph.now in
    let order = c.args.order.now in
    let numbers = c.loop-node.depths.items in
    holds_of_list c.from_slice.result numbers (λ (depths : List ℕ). All (λ a. slice_get depths a ≡ Some (depth_within (length g) g a)) order)
    c.from_slice.ensures c.deref-2.ensures.value
    (all_filled 0 (depth_within (length g) g) order numbers c.loop-node.node-index (λ k d within. omega (arith, c.requires.nodes k d within, c.loop-node.invariant.fits)) c.loop-node-test.false c.loop-node.invariant.found)
