-- The fault is the only one, if its fact holds.
use Rattle.std.proofs.Common.{◌∙◌, sym}
use Rattle.std.proofs.lemmas.Bool.{true≢false}
use Rattle.protocol_names.proofs.FaultOrderLemmas.{holds_first, holds_not}
use Rattle.protocol_names.proofs.fault_order.fault_if.Goals as goal

pub returns-then-holds : goal.returns-then-holds
returns-then-holds c = holds_first _ c.args.kind c.args.offset c.if-holds.true

pub returns : goal.returns
returns c = holds_not _ c.args.kind c.args.offset (λ yes. true≢false (sym yes ∙ c.if-holds.false))
