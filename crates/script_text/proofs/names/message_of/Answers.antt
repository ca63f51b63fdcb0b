-- The name is that of the item at the index that is found.
use Rattle.std.proofs.Common.{sym, ◌∙◌}
use Rattle.bspl_types.specs.declared.protocol.Message.{Message}
use Rattle.bspl_types.specs.Expansion.{no_message}
use Rattle.script_text.proofs.NameLemmas.{found_named, none_named}
use Rattle.script_text.proofs.names.message_of.Goals as goal

pub returns-in_err-index : goal.returns-in_err-index
returns-in_err-index c =
    let none = rw c.as_slice.ensures at (sym c.in_err-index.was ∙ c.index_of.ensures) in
    rw c.from_residual.ensures (none_named (λ (m : Message). m.name) c.args.x.now.messages c.args.name.now no_message none)

pub returns : goal.returns
returns c =
    let found = rw c.as_slice.ensures at (sym c.in_ok-index.was ∙ c.index_of.ensures) in
    found_named (λ (m : Message). m.name) c.args.x.now.messages c.args.name.now c.in_ok-index.index no_message found
