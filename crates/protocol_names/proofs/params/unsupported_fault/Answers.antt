-- The test says whether the adornment is supported.
use Rattle.protocol_names.proofs.FaultOrderLemmas.{holds_same}
use Rattle.protocol_names.proofs.params.unsupported_fault.Goals as goal

pub returns : goal.returns
returns c = holds_same _ _ _ c.args.formal.now.offset c.fault_if.result c.is_unsupported-unsupported.ensures.0 c.is_unsupported-unsupported.ensures.1 c.fault_if.ensures
