-- The references of all protocols are a graph.
use Rattle.std.proofs.Common.{sym, subst, ◌∙◌}
use Rattle.reference_graph.specs.Graph.{IsGraph}
use Rattle.protocol_limits.proofs.GraphLemmas.{all_lists, graph_is}
use Rattle.protocol_limits.proofs.references.graph_of.Goals as goal

pub of-requires : goal.of-requires
of-requires c =
    let protocols = c.args.table.now.protocols.now in
    subst IsGraph (sym (all_lists protocols c.loop-protocol.lists c.loop-protocol.protocol-index c.loop-protocol.invariant c.loop-protocol-test.false)) (graph_is protocols c.requires)

pub returns : goal.returns
returns c =
    c.of.ensures ∙ all_lists c.args.table.now.protocols.now c.loop-protocol.lists c.loop-protocol.protocol-index c.loop-protocol.invariant c.loop-protocol-test.false
