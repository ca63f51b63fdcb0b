-- The run of an answer on a message.
use Rattle.bspl_types.specs.declared.expanded.Expanded.{Expanded}
use Rattle.bspl_types.specs.History.{IsRun}
use Rattle.enactability.specs.declared.outcome.Enact.{Enact}
use Rattle.enactability.specs.declared.outcome.Enact.TheVariants.{Dead, Enacted, Undecided}

-- the events of the answer's run, if it has one, fit the protocol
abbrev pub EnactedRunFits : Expanded → Enact → Type 0
EnactedRunFits x (Enacted run) = IsRun x run
EnactedRunFits x (Dead log) = Unit {0}
EnactedRunFits x (Undecided log) = Unit {0}
