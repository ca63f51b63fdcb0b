-- The index of the name is the number of its protocol.
use Rattle.std.proofs.Common.{◌∙◌, sym, ap}
use Rattle.protocol_limits.specs.Graph.{protocol_number, target_of}
use Rattle.protocol_limits.proofs.NumberLemmas.{number_by_names}
use Rattle.protocol_limits.proofs.references.target_of.Goals as goal

pub returns-in-Reference-clause-target : goal.returns-in-Reference-clause-target
returns-in-Reference-clause-target c =
    let table = c.args.table.now in
    c.index.ensures ∙ number_by_names table.protocols.now table.names c.as_slice.result.now table.in_order
    ∙ ap (protocol_number table.protocols.now) c.as_slice.ensures ∙ ap (target_of table.protocols.now) (sym c.in-Reference.is)
