-- What has been made of the parameters.
use Rattle.std.proofs.Common.{take}
use Rattle.std.specs.List.{AllZip}
use Rattle.protocol_expand.specs.FlatExpansion.{IsCarried}
use Rattle.protocol_expand.proofs.messages.all_carried.Given as goal

-- one for each parameter so far
abbrev pub invariant-loop-formal : goal.invariant-loop-formal
invariant-loop-formal l = AllZip (IsCarried l.params) (take l.formal-index l.formals) l.all
