-- What is answered of the flat protocol.
use Rattle.protocol_paths.specs.FlatProtocol.{as_declaration}
use Rattle.protocol_expand.proofs.FlatAnswers.{expands_top, refuses_top}
use Rattle.protocol_expand.proofs.flat.expand_top.Goals as goal

pub expand_flat-requires : goal.expand_flat-requires
expand_flat-requires c = c.requires.ready (as_declaration c.in_ok-flat.flat) c.in_ok-flat.ensures

pub returns : goal.returns
returns c =
    let flat = as_declaration c.in_ok-flat.flat in
    record {
      ok = expands_top c.args.table.now.protocols.now c.args.top.now flat c.expand_flat.result c.in_ok-flat.ensures c.expand_flat.ensures.ok;
      refused = refuses_top c.args.table.now.protocols.now c.args.top.now flat c.expand_flat.result c.in_ok-flat.ensures c.expand_flat.ensures.refused;
    }
