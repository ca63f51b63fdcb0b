-- The first of the sorts of faults of a protocol.
use Rattle.protocol_names.proofs.Declared.{fault_found, twice_found}
use Rattle.protocol_names.proofs.document.fault_in.Goals as goal

pub other_fault-requires-clause-roles : goal.other_fault-requires-clause-roles
other_fault-requires-clause-roles c = (rw c.as_slice-2.ensures at c.in_ok-roles.ensures).in_order

pub other_fault-requires-clause-params : goal.other_fault-requires-clause-params
other_fault-requires-clause-params c = (rw (c.as_slice-3.ensures, c.as_slice-4.ensures) at c.in_ok-params.ensures).in_order

pub returns : goal.returns
returns c =
    let p = c.args.p.now in
    let of_messages = rw c.as_slice.ensures at c.in_ok-messages.ensures in
    let of_roles = rw c.as_slice-2.ensures at c.in_ok-roles.ensures in
    let of_params = rw (c.as_slice-3.ensures, c.as_slice-4.ensures) at c.in_ok-params.ensures in
    fault_found c.args.table.now.protocols.now p c.earlier-duplicate.result c.in_ok-other.other c.earlier-2.result
    (twice_found p _ _ _ _ _ _ _ _ of_roles of_params of_messages c.earlier.ensures c.earlier-duplicate.ensures)
    c.in_ok-other.ensures c.earlier-2.ensures
