-- What the loop over the parameters has found.
use Rattle.std.proofs.Common.{take}
use Rattle.std.specs.List.{All}
use Rattle.enactment_model.specs.BadEvent.{IsAllowed}
use Rattle.enactment_model.proofs.legality.check_all.Given as goal
use Rattle.bspl_types.specs.History.{sender_history}

-- the parameters that were passed are allowed
abbrev pub invariant-loop-c : goal.invariant-loop-c
invariant-loop-c l = All (IsAllowed l.x (sender_history l.x l.before l.instance.message) l.instance) (take l.c-index l.carried)
