-- What `check-dead` answers on an admitted protocol and the text of a log on one of its messages.
use Rattle.std.specs.Prelude.{◌≡◌, ◌⊎◌, ℕ, List, ◌++◌, Some, ⊤}
use Rattle.bspl_types.specs.declared.expanded.Expanded.{Expanded}
use Rattle.bspl_types.specs.Expansion.{message_name}
use Rattle.enactability.specs.Check.{AcceptsDead, FailsDead}
use Rattle.enactability.specs.DeadText.{IsDeadText}
use Rattle.enactability.specs.Enactable.{Enactable}
use Rattle.enactability.specs.Refusal.{IsRefusedDead}
use Rattle.log_checker.specs.declared.refusal.Reject.{Reject}
use Rattle.refutation_log.specs.declared.refusal.LogRefusal.{LogRefusal}
use Rattle.refutation_log.specs.declared.refutation.Log.{Log}
use Rattle.tool_input.specs.declared.need.Need.TheVariants.{Part}
use Rattle.tool_input.specs.Rules.{CommandRules}
use Rattle.tool_input.specs.declared.parts.Part.TheVariants as part
use Rattle.tool_input.specs.declared.rejection.Rejection.{Rejection}
use Rattle.tool_input.specs.declared.status.Status.{Status}
use Rattle.tool_input.specs.declared.status.Status.TheVariants.{Done, Refuted}
use Rattle.tool_input.specs.Lines.{line}
use Rattle.evidence_commands.specs.declared.wording.TheConstants.{ACCEPTED_DEAD}
use Rattle.rejections.specs.PartRejection.{log_rejection}
use Rattle.rejections.specs.FailureLine.{reject_line}

-- the line of a log that is accepted on the message of that name
abbrev pub accepted_dead_line : List ℕ → List ℕ
accepted_dead_line name = ACCEPTED_DEAD.now ++ name

-- the log is accepted, so that no legal run emits the message, and the text says so
pub record SaysAcceptedDead (x : Expanded) (m : ℕ) (log : Log) (out : List ℕ) (status : Status)
    : Type 0 where
  pub accepts : AcceptsDead x m log
  pub dead : ¬ Enactable x m
  pub text : out ≡ line (accepted_dead_line (message_name x m))
  pub done : status ≡ Done

-- the log is not accepted, and the text names its first failure
pub record SaysRejectedDead (x : Expanded) (m : ℕ) (log : Log) (out : List ℕ) (status : Status)
    : Type 0 where
  pub reject : Reject
  pub fails : FailsDead x m log reject
  pub text : out ≡ reject_line reject
  pub refuted : status ≡ Refuted

-- the part is the text of a log on a message, and the answer says whether it is accepted
pub record IsCheckDeadAnswer (x : Expanded) (part out : List ℕ) (status : Status) : Type 0 where
  pub message : ℕ
  pub log : Log
  pub read : IsDeadText x part message log
  pub answer : SaysAcceptedDead x message log out status ⊎ SaysRejectedDead x message log out status

-- the part is the text of no log on a message, and has a first bad line
pub record IsCheckDeadRefused (x : Expanded) (part : List ℕ) (rejection : Rejection)
    : Type 0 where
  pub refusal : LogRefusal
  pub refused : IsRefusedDead x part refusal
  pub rejection_is : log_rejection refusal ≡ Some rejection

-- it needs a log, and gives one answer or one refusal of it
abbrev pub check_dead_rules : CommandRules
check_dead_rules = record {
  needs = Part part.Log;
  answers = IsCheckDeadAnswer;
  refuses = IsCheckDeadRefused;
  is_determined = ⊤;
}
