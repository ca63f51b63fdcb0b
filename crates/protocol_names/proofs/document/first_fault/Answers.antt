-- A fault of the protocols' names, or of a protocol.
use Rattle.protocol_names.specs.Fault.{IsDuplicate, IsFaultIn}
use Rattle.protocol_names.specs.FaultOrder.{OfSome}
use Rattle.protocol_names.specs.Names.{protocol_words}
use Rattle.protocol_names.proofs.FaultOrderLemmas.{finds_two}
use Rattle.protocol_names.proofs.document.first_fault.Goals as goal

pub returns : goal.returns
returns c =
    let protocols = c.args.document.now.protocols in
    let named = rw c.as_slice-protocols.ensures at c.in_ok-declared.ensures in
    finds_two (IsDuplicate (protocol_words protocols)) (OfSome (IsFaultIn protocols) protocols) _ _ _ named.duplicate (rw c.as_slice-protocols.ensures at c.in_ok-inner.ensures) c.earlier.ensures
