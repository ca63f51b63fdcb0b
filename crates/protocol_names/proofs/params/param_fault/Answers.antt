-- The first of the three faults that a parameter can have.
use Rattle.protocol_names.specs.FaultOrder.{EitherFault}
use Rattle.protocol_names.specs.Fault.{IsUnknown, IsUnsupported, IsForeignKey}
use Rattle.protocol_names.proofs.FaultOrderLemmas.{finds_two}
use Rattle.protocol_names.proofs.params.param_fault.Goals as goal

pub returns : goal.returns
returns c =
    let f = c.args.formal.now in
    let names = c.args.names.now in
    finds_two (IsUnknown names.params f.name) (EitherFault (IsUnsupported f) (IsForeignKey names.keys f)) _ _ _ c.unknown_fault-unknown.ensures
    (finds_two (IsUnsupported f) (IsForeignKey names.keys f) _ _ _ c.unsupported_fault-unsupported.ensures c.foreign_key_fault-foreign.ensures c.earlier.ensures) c.earlier-2.ensures
