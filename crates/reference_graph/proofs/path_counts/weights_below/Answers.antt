-- The weights below the nodes, one after another.
use Rattle.std.proofs.Common.{◌≡◌, ◌+◌, ℕ, List, Some, length, get_or, set, slice_get, sym, ap, ◌∙◌, subst, arith, All, length-set}
use Rattle.std.specs.List.{sum_by}
use Rattle.std.proofs.lemmas.Option.{slice_get-get_or}
use Rattle.reference_graph.specs.PathCounts.{weight_below, saturated}
use Rattle.list_base.proofs.Tables.{AreFilled, AreFilled-more, all_filled, holds_of_list}
use Rattle.reference_graph.proofs.CountLemmas.{weight_is}
use Rattle.reference_graph.proofs.path_counts.weights_below.Goals as goal

pub loop-node-preserved : goal.loop-node-preserved
loop-node-preserved c =
    let g = c.args.graph.now in
    let order = c.args.order.now in
    let weights = c.args.weights.now in
    let numbers = c.loop-node.sums.items in
    let i = c.loop-node.node-index in
    let a = get_or order i 0 in
    let at = slice_get-get_or order i 0 c.loop-node-test.true in
    let fits = c.loop-node.invariant.fits in
    let own = get_or weights a 0 in
    let sum : c.sum_from-sum.result ≡ saturated (weight_below (length g) g weights a) =
    c.sum_from-sum.ensures
    ∙ ap (λ (xs : List ℕ). saturated (own + sum_by (λ index. get_or xs index 0) c.references.result.now)) c.deref.ensures.value
    ∙ ap (λ (bs : List ℕ). saturated (own + sum_by (λ index. get_or numbers index 0) bs)) c.references.ensures.lists
    ∙ weight_is g weights order numbers i a c.requires.topological at c.loop-node.invariant.found in
    record {
      fits = length-set numbers a c.sum_from-sum.result ∙ fits;
      found = subst (λ n. AreFilled 0 (λ b. saturated (weight_below (length g) g weights b)) order (set numbers a n) (i + 1)) (sym sum)
          (AreFilled-more 0 (λ b. saturated (weight_below (length g) g weights b)) order numbers i a at (omega (arith, c.requires.topological.nodes i 0 c.loop-node-test.true, fits)) c.loop-node.invariant.found);
    }

pub returns : goal.returns
returns c =
    let g = c.args.graph.now in
    let order = c.args.order.now in
    let weights = c.args.weights.now in
    let numbers = c.loop-node.sums.items in
    holds_of_list c.from_slice.result numbers (λ (sums : List ℕ). All (λ a. slice_get sums a ≡ Some (saturated (weight_below (length g) g weights a))) order)
    c.from_slice.ensures c.deref-2.ensures.value
    (all_filled 0 (λ b. saturated (weight_below (length g) g weights b)) order numbers c.loop-node.node-index (λ k d within. omega (arith, c.requires.topological.nodes k d within, c.loop-node.invariant.fits)) c.loop-node-test.false c.loop-node.invariant.found)
