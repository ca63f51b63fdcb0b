-- The parameters that were passed are permitted.
use Rattle.std.proofs.Common.{take}
use Rattle.std.specs.List.{All}
use Rattle.bspl_types.specs.History.{history_of}
use Rattle.role_knowledge.specs.Blocked.{IsPermitted}
use Rattle.role_knowledge.proofs.emission.check_all.Given as goal

abbrev pub invariant-loop-c : goal.invariant-loop-c
invariant-loop-c l = All (IsPermitted l.x (history_of l.x l.role l.events) l.key) (take l.c-index l.carried)
