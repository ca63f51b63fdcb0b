-- The sender and the receiver, or the roles of a reference.
use Rattle.protocol_names.specs.Fault.{IsUnknown}
use Rattle.protocol_names.proofs.FaultOrderLemmas.{finds_pair}
use Rattle.protocol_names.proofs.items.roles_used_fault.Goals as goal

pub returns-in-Message : goal.returns-in-Message
returns-in-Message c = rw c.in-Message.is (finds_pair (IsUnknown c.args.declared.now) c.in-Message.schema.sender c.in-Message.schema.receiver _ _ _ c.unknown_fault.ensures c.unknown_fault-in-Message.ensures c.earlier.ensures)

pub returns-in-Reference : goal.returns-in-Reference
returns-in-Reference c = rw c.in-Reference.is (rw c.as_slice.ensures at c.unknown_in.ensures)
