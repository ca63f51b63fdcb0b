-- What `check` answers on an admitted protocol and the text of a log.
use Rattle.std.specs.Prelude.{◌≡◌, ◌⊎◌, ℕ, List, Some, ⊤}
use Rattle.bspl_types.specs.declared.expanded.Expanded.{Expanded}
use Rattle.enactment_model.specs.Property.{Holds}
use Rattle.log_checker.specs.declared.refusal.Reject.{Reject}
use Rattle.protocol_check.specs.Check.{AcceptsLog, FailsLog, property_of}
use Rattle.refutation_log.specs.declared.refusal.LogRefusal.{LogRefusal}
use Rattle.refutation_log.specs.declared.refutation.Kind.{Kind}
use Rattle.refutation_log.specs.declared.refutation.Kind.TheVariants.{Liveness, Safety}
use Rattle.refutation_log.specs.declared.refutation.Log.{Log}
use Rattle.refutation_log.specs.LogText.{IsTextOf}
use Rattle.refutation_log.specs.Refusal.{IsRefusedLog}
use Rattle.rejections.specs.FailureLine.{reject_line}
use Rattle.rejections.specs.PartRejection.{log_rejection}
use Rattle.tool_input.specs.declared.need.Need.TheVariants.{Part}
use Rattle.tool_input.specs.Rules.{CommandRules}
use Rattle.tool_input.specs.declared.parts.Part.TheVariants as part
use Rattle.tool_input.specs.declared.rejection.Rejection.{Rejection}
use Rattle.tool_input.specs.declared.status.Status.{Status}
use Rattle.tool_input.specs.declared.status.Status.TheVariants.{Done, Refuted}
use Rattle.tool_input.specs.Lines.{line}
use Rattle.evidence_commands.specs.declared.wording.TheConstants.{ACCEPTED_LIVENESS, ACCEPTED_SAFETY}

-- the line of an accepted log of the kind
abbrev pub accepted_kind_line : Kind → List ℕ
accepted_kind_line Safety = ACCEPTED_SAFETY.now
accepted_kind_line Liveness = ACCEPTED_LIVENESS.now

-- the log derives the empty clause from the protocol's formula of its kind, so that the protocol
-- has the property, and the text says that it is accepted
pub record SaysAccepted (x : Expanded) (kind : Kind) (log : Log) (out : List ℕ) (status : Status)
    : Type 0 where
  pub accepts : AcceptsLog (property_of kind) x log
  pub holds : Holds (property_of kind) x
  pub text : out ≡ line (accepted_kind_line kind)
  pub done : status ≡ Done

-- the log is not accepted, and the text names its first failure
pub record SaysRejected (x : Expanded) (kind : Kind) (log : Log) (out : List ℕ) (status : Status)
    : Type 0 where
  pub reject : Reject
  pub fails : FailsLog (property_of kind) x log reject
  pub text : out ≡ reject_line reject
  pub refuted : status ≡ Refuted

-- the part is the text of a log of a kind, and the answer says whether it is accepted
pub record IsCheckAnswer (x : Expanded) (part out : List ℕ) (status : Status) : Type 0 where
  pub kind : Kind
  pub log : Log
  pub read : IsTextOf part kind log
  pub answer : SaysAccepted x kind log out status ⊎ SaysRejected x kind log out status

-- the part is the text of no log, and has a first bad line
pub record IsCheckRefused (part : List ℕ) (rejection : Rejection) : Type 0 where
  pub refusal : LogRefusal
  pub refused : IsRefusedLog part refusal
  pub rejection_is : log_rejection refusal ≡ Some rejection

-- it needs a log, and gives one answer or one refusal of it
abbrev pub check_rules : CommandRules
check_rules = record {
  needs = Part part.Log;
  answers = IsCheckAnswer;
  refuses = λ x. IsCheckRefused;
  is_determined = ⊤;
}
