-- What the events that were passed make known.
use Rattle.std.proofs.Common.{take}
use Rattle.bspl_types.specs.History.{history_of}
use Rattle.bspl_types.specs.Knowledge.{IsKnown}
use Rattle.role_knowledge.proofs.knowledge.knows.Given as goal

-- the role knows nothing from them
abbrev pub invariant-loop-event : goal.invariant-loop-event
invariant-loop-event l = ¬ IsKnown l.x (history_of l.x l.role (take l.event-index l.events)) l.key l.param
