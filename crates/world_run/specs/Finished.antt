-- When a world is settled.
use Rattle.std.specs.Prelude.{◌≡◌, List, []}
use Rattle.std.specs.List.{All}
use Rattle.bspl_types.specs.declared.event.Event.{Event}
use Rattle.adapter.specs.Desk.{DeskState}
use Rattle.adapter.specs.Rules.{rules_of}
use Rattle.agent_scripts.specs.Job.{Job}
use Rattle.stamped_history.specs.Played.{Played}
use Rattle.stamped_history.specs.Settled.{Settled}
use Rattle.stamped_history.specs.Explained.{AreExplained, AreLocal}
use Rattle.stamped_history.specs.Laws.{IsRunOf}
use Rattle.stamped_history.specs.Merged.{IsMerged}
use Rattle.world_run.specs.World.{histories_of}

-- the run is a legal one of the desks' histories, the agents play it by the job's rules, and
-- nothing is left to do in it
pub record IsSettledRun (job : Job) (desks : List DeskState) (run : List Event) : Type 0 where
  pub run_is : IsRunOf job.protocol (histories_of desks) run
  pub played : Played job.protocol (rules_of job) run
  pub settled : Settled job.protocol (rules_of job) run

-- the desks have local histories whose receipts are all explained and that merge into a run that
-- is settled
pub record IsFinished (job : Job) (desks : List DeskState) : Type 0 where
  pub local : AreLocal job.protocol (histories_of desks)
  pub explained : AreExplained job.protocol (histories_of desks)
  pub run : List Event
  pub merged : IsMerged (histories_of desks) run
  pub played_out : IsSettledRun job desks run

-- no desk holds an envelope
abbrev pub AreEmptied : List DeskState → Type 0
AreEmptied desks = All (λ d. d.inbox.envelopes ≡ []) desks
