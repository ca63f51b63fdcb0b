-- One index more in the depth.
use Rattle.std.proofs.Common.{◌+◌, max, get_or, sym, ap, ◌∙◌}
use Rattle.reference_graph.proofs.CountLemmas.{greatest_more}
use Rattle.reference_graph.proofs.path_counts.depth_over.Goals as goal

pub loop-index-preserved : goal.loop-index-preserved
loop-index-preserved c =
    let numbers = c.args.numbers.now in
    let indices = c.args.indices.now in
    let i = c.loop-index.index-index in
    c.max-depth.ensures ∙ ap (λ depth. max depth (get_or numbers (get_or indices i 0) 0 + 1)) c.loop-index.invariant
    ∙ sym (greatest_more (λ index. get_or numbers index 0 + 1) indices i 0 c.loop-index-test.true)
