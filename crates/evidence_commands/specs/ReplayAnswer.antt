-- What `replay` answers on an admitted protocol and the text of a run.
use Rattle.std.specs.Prelude.{◌≡◌, ◌⊎◌, ℕ, List, Some, ⊤}
use Rattle.bspl_types.specs.declared.event.Event.{Event}
use Rattle.bspl_types.specs.declared.expanded.Expanded.{Expanded}
use Rattle.enactment_model.specs.Legal.{IsLegal}
use Rattle.rejections.specs.PartRejection.{run_rejection}
use Rattle.report.specs.ReplayText.{IsReplayText}
use Rattle.run_text.specs.declared.refusal.RunRefusal.{RunRefusal}
use Rattle.run_text.specs.Refusal.{IsRefusedRun}
use Rattle.run_text.specs.RunText.{IsRunText}
use Rattle.tool_input.specs.declared.need.Need.TheVariants.{Part}
use Rattle.tool_input.specs.Rules.{CommandRules}
use Rattle.tool_input.specs.declared.parts.Part.TheVariants as part
use Rattle.tool_input.specs.declared.rejection.Rejection.{Rejection}
use Rattle.tool_input.specs.declared.status.Status.{Status}
use Rattle.tool_input.specs.declared.status.Status.TheVariants.{Done, Refuted}

-- the status says whether the run is legal
abbrev pub SaysLegal : Expanded → List Event → Status → Type 0
SaysLegal x run status =
    (IsLegal x run × (status ≡ Done)) ⊎ ((¬ IsLegal x run) × (status ≡ Refuted))

-- the part is the text of a run, and the output reports on that run
pub record IsReplayAnswer (x : Expanded) (part out : List ℕ) (status : Status) : Type 0 where
  pub run : List Event
  pub read : IsRunText x part run
  pub text : IsReplayText x run out
  pub legal : SaysLegal x run status

-- the part is the text of no run, and has a first bad line
pub record IsReplayRefused (x : Expanded) (part : List ℕ) (rejection : Rejection) : Type 0 where
  pub refusal : RunRefusal
  pub refused : IsRefusedRun x part refusal
  pub rejection_is : run_rejection refusal ≡ Some rejection

-- it needs a run, and gives one answer or one refusal of it
abbrev pub replay_rules : CommandRules
replay_rules = record {
  needs = Part part.Run;
  answers = IsReplayAnswer;
  refuses = IsReplayRefused;
  is_determined = ⊤;
}
