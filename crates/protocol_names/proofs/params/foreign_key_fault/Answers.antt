-- The table says whether the name is declared as a key.
use Rattle.protocol_names.proofs.Faults.{foreign_found}
use Rattle.protocol_names.proofs.params.foreign_key_fault.Goals as goal

pub returns : goal.returns
returns c = foreign_found c.args.keys.now c.args.formal.now c.in_ok-offset.offset c.has-known.result c.fault_if.result c.in_ok-offset.was (rw c.as_slice.ensures at c.has-known.ensures) c.fault_if.ensures
