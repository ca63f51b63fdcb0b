-- What holds of the desks of a world. The statement is the contract of a public function.
use Rattle.std.specs.Prelude.{◌≡◌, List, length}
use Rattle.std.specs.List.{sum_by}
use Rattle.bspl_types.specs.declared.event.Event.{Event}
use Rattle.adapter.specs.Desk.{DeskState}
use Rattle.adapter.specs.Rules.{rules_of}
use Rattle.agent_scripts.specs.Job.{Job}
use Rattle.agent_scripts.specs.Refusal.{IsScriptFor}
use Rattle.stamped_history.specs.Played.{Played}
use Rattle.stamped_history.specs.Explained.{AreExplained, AreLocal}
use Rattle.stamped_history.specs.Laws.{IsRunOf}
use Rattle.stamped_history.specs.Merged.{IsMerged}
use Rattle.world_run.specs.World.{AreKept, histories_of}

-- the histories are local and merge into a legal run that the agents play by the job's rules; it
-- has as many events as the histories have entries
pub record MergePlayed (job : Job) (desks : List DeskState) : Type 0 where
  pub local : AreLocal job.protocol (histories_of desks)
  pub run : List Event
  pub merged : IsMerged (histories_of desks) run
  pub run_is : IsRunOf job.protocol (histories_of desks) run
  pub played : Played job.protocol (rules_of job) run
  pub count : length run ≡ sum_by length (histories_of desks)

-- so do those of kept desks whose receipts are all explained
abbrev pub KeptDesksMerge : Type 0
KeptDesksMerge = (job : Job) (desks : List DeskState) → IsScriptFor job.protocol job.script →
    AreKept job desks → AreExplained job.protocol (histories_of desks) → MergePlayed job desks
