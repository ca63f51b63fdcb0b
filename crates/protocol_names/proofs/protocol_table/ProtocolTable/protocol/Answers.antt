-- The index of the name is the index of its protocol.
use Rattle.std.proofs.Common.{◌∙◌, sym, ap, rules}
use Rattle.std.specs.Prelude.{option_copied}
use Rattle.list_base.proofs.LentItem.{item_at}
use Rattle.protocol_names.proofs.Lookups.{protocol_at, no_protocol}
use Rattle.protocol_names.proofs.protocol_table.ProtocolTable.protocol.Goals as goal

pub returns-in_err-index : goal.returns-in_err-index
returns-in_err-index c = ap option_copied c.from_residual.ensures ∙ sym (no_protocol c.args.self.now.protocols.now c.args.self.now.names c.args.name.now c.args.self.now.in_order (sym c.index.ensures ∙ search rules))

pub returns : goal.returns
returns c = item_at c.args.self.now.protocols.now c.in_ok-index.index c.get.result c.get.ensures.lookup ∙ protocol_at c.args.self.now.protocols.now c.args.self.now.names c.args.name.now c.in_ok-index.index c.args.self.now.in_order (sym c.index.ensures ∙ c.in_ok-index.was)
