-- A name has an index exactly if it is among the names.
use Rattle.std.proofs.Common.{◌∙◌, ap, subst, sym}
use Rattle.std.specs.Prelude.{◌↔◌, IsTrue, is_some}
use Rattle.std.specs.List.{Contains}
use Rattle.list_base.proofs.FirstIndex.{has_index}
use Rattle.protocol_names.proofs.name_table.NameTable.has.Goals as goal

pub returns : goal.returns
returns c = subst (λ b. IsTrue b ↔ Contains c.args.self.now c.args.name.now) (sym (c.is_some.ensures ∙ ap is_some c.index.ensures)) (has_index c.args.self.now c.args.name.now)
