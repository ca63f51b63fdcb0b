-- The table says whether the name is declared.
use Rattle.protocol_names.proofs.Faults.{unknown_found}
use Rattle.protocol_names.proofs.params.unknown_fault.Goals as goal

pub returns : goal.returns
returns c = unknown_found c.args.declared.now c.args.word.now c.has-known.result c.fault_if.result (rw c.as_slice.ensures at c.has-known.ensures) c.fault_if.ensures
