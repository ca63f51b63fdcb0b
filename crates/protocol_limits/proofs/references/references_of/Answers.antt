-- One item more.
use Rattle.std.proofs.Common.{◌++◌, [], sym, ◌∙◌}
use Rattle.std.specs.List.{cons_option}
use Rattle.protocol_limits.specs.Graph.{target_of}
use Rattle.protocol_limits.proofs.GraphLemmas.{filter_map_more}
use Rattle.protocol_limits.proofs.references.references_of.Goals as goal

pub loop-item-preserved : goal.loop-item-preserved
loop-item-preserved c =
    let protocols = c.args.table.now.protocols.now in
    let items = c.as_slice-item-items.result.now in
    c.in_ok-add_target.ensures
    ∙ (λ j. c.loop-item.invariant j ++ cons_option (target_of protocols (c.item-item.is j)) [])
    ∙ sym (filter_map_more (target_of protocols) items c.loop-item.item-index c.item-item.result c.loop-item-test.true)
