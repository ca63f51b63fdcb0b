-- The top is a node of the graph.
use Rattle.std.proofs.Common.{◌≡◌, ◌<◌, ℕ, List, length, sym, ap, ◌∙◌, subst}
use Rattle.protocol_limits.proofs.GraphLemmas.{length_graph}
use Rattle.protocol_limits.proofs.precheck.survey.Goals as goal

pub walk-requires : goal.walk-requires
walk-requires c =
    let protocols = c.args.table.now.protocols.now in
    let nodes : length c.in_ok-graph.graph ≡ length protocols = ap (λ (g : List (List ℕ)). length g) c.in_ok-graph.ensures ∙ length_graph protocols in
    subst (λ n. c.args.top < n) (sym nodes) c.requires.declared
