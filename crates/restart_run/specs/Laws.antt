-- Which run a world with restarts makes. The statement is the contract of a public function.
use Rattle.std.specs.Prelude.{List}
use Rattle.bspl_types.specs.declared.event.Event.{Event}
use Rattle.bspl_types.specs.declared.expanded.Expanded.{Expanded}
use Rattle.stamped_history.specs.declared.entry.Entry.{Entry}
use Rattle.stamped_history.specs.Explained.{AreExplained, AreLocal}
use Rattle.stamped_history.specs.Laws.{IsRunOf}
use Rattle.stamped_history.specs.Merged.{IsMerged}
use Rattle.restart_run.specs.Steps.{AllHappen, Step, histories_after, no_events}

-- the histories are local and their receipts explained, and each merge of them is a legal run
pub record MakeLegalRun (x : Expanded) (histories : List (List Entry)) : Type 0 where
  pub local : AreLocal x histories
  pub explained : AreExplained x histories
  pub merged : (run : List Event) → IsMerged histories run → IsRunOf x histories run

-- from a world without events, steps that may happen leave histories that make a legal run
abbrev pub RestartsAreLegal : Type 0
RestartsAreLegal = (x : Expanded) (steps : List Step) →
    AllHappen x (no_events x) steps → MakeLegalRun x (histories_after (no_events x) steps)
