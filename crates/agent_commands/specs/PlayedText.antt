-- What is written of agents that play a protocol which is found safe.
use Rattle.std.specs.Prelude.{◌≡◌, ℕ, List, []}
use Rattle.adapter.specs.Desk.{DeskState}
use Rattle.agent_scripts.specs.Job.{Job}
use Rattle.agent_scripts.specs.Script.{Script}
use Rattle.bspl_types.specs.declared.event.Event.{Event}
use Rattle.bspl_types.specs.declared.expanded.Expanded.{Expanded}
use Rattle.report.specs.Summary.{IsSummaryText}
use Rattle.report.specs.WorldText.{IsWorldText}
use Rattle.verdict.specs.declared.outcome.Safety.{Safety}
use Rattle.verdict.specs.declared.outcome.Safety.TheVariants.{Safe, Undecided, Unsafe}
use Rattle.world_run.specs.Finished.{IsFinished}
use Rattle.world_run.specs.Settling.{HaveRunWhole}
use Rattle.agent_commands.specs.declared.world_report.WorldReport.{WorldReport}
use Rattle.agent_commands.specs.declared.world_report.WorldReport.TheVariants.{Summary, Table}

-- the text reports on the run of a world in that form
abbrev pub ReportsOn : WorldReport → Expanded → Script → List Event → List ℕ → Type 0
ReportsOn Table x script run text = IsWorldText x script run text
ReportsOn Summary x script run text = IsSummaryText x script run text

-- the report on a world whose histories are local and explained, and whose merged run is legal; the
-- job's agents played it from new desks to its end; without threads of their own they did so in
-- the order that the plan's seed gives
pub record IsPlayedText (report : WorldReport) (threads : ℕ) (job : Job)
    (text : List ℕ) : Type 0 where
  pub desks : List DeskState
  pub finished : IsFinished job desks
  pub course : threads ≡ 0 → HaveRunWhole job desks
  pub text_is : ReportsOn report job.protocol job.script finished.run text

-- the agents of a protocol that is found safe play, and this is written of them; else nothing is
abbrev pub AgentsText : (List ℕ → Type 0) → Safety → List ℕ → Type 0
AgentsText is_written (Safe log) text = is_written text
AgentsText is_written (Unsafe run param first second) text = text ≡ []
AgentsText is_written (Undecided log) text = text ≡ []
