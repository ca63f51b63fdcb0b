-- The names are those of the protocol.
use Rattle.protocol_names.specs.declared.names.Names.{Names}
use Rattle.protocol_names.proofs.Declared.{names_found, others_found}
use Rattle.protocol_names.proofs.document.other_fault.Goals as goal

pub returns : goal.returns
returns c =
    let p = c.args.p.now in
    let names : Names = record { roles = c.args.roles; params = c.args.params; keys = c.in_ok-keys.keys } in
    others_found c.args.table.now.protocols.now p names c.public_fault-public.result c.body_fault-body.result c.earlier.result
    (names_found p names c.requires.roles c.requires.params (rw c.as_slice.ensures at c.in_ok-keys.ensures))
    (rw c.as_slice-2.ensures at c.public_fault-public.ensures) (rw c.as_slice-3.ensures at c.body_fault-body.ensures) c.earlier.ensures
