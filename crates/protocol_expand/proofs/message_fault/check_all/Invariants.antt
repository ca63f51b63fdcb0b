-- The messages that were passed are admitted.
use Rattle.std.proofs.Common.{take}
use Rattle.std.specs.List.{All}
use Rattle.bspl_types.specs.Admission.{IsAdmittedMessage}
use Rattle.protocol_expand.proofs.message_fault.check_all.Given as goal

abbrev pub invariant-loop-message : goal.invariant-loop-message
invariant-loop-message l = All (IsAdmittedMessage l.keys) (take l.message-index l.messages)
