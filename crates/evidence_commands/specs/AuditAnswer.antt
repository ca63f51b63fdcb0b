-- What `audit` answers on an admitted protocol and the text of histories.
use Rattle.std.specs.Prelude.{◌≡◌, ◌⊎◌, ℕ, List, Some}
use Rattle.bspl_types.specs.declared.event.Event.{Event}
use Rattle.bspl_types.specs.declared.expanded.Expanded.{Expanded}
use Rattle.enactment_model.specs.declared.bad_event.Why.{Why}
use Rattle.history_audit.specs.declared.audit_no.Point.{Point}
use Rattle.history_audit.specs.declared.refusal.HistoryRefusal.{HistoryRefusal}
use Rattle.history_audit.specs.Audit.{HasNoExplanation, IsOnlyCycle}
use Rattle.history_audit.specs.BadPlace.{IsFirstBadPlace}
use Rattle.history_audit.specs.Histories.{Explains}
use Rattle.history_audit.specs.HistoryText.{IsHistoriesText}
use Rattle.history_audit.specs.Refusal.{IsRefusedText}
use Rattle.rejections.specs.PartRejection.{histories_rejection}
use Rattle.report.specs.AuditText.{bad_place_line, consistent_text, cycle_line}
use Rattle.tool_input.specs.declared.need.Need.TheVariants.{Part}
use Rattle.tool_input.specs.Rules.{CommandRules}
use Rattle.tool_input.specs.declared.parts.Part.TheVariants as part
use Rattle.tool_input.specs.declared.rejection.Rejection.{Rejection}
use Rattle.tool_input.specs.declared.status.Status.{Status}
use Rattle.tool_input.specs.declared.status.Status.TheVariants.{Done, Refuted}

-- a legal run in which each role has its history, and the text that gives it
pub record SaysConsistent (x : Expanded) (histories : List (List Event)) (out : List ℕ)
    (status : Status) : Type 0 where
  pub run : List Event
  pub explains : Explains x run histories
  pub text : out ≡ consistent_text x run
  pub done : status ≡ Done

-- the text names the first bad place and why it is bad; or, if no place is bad, a cycle of receipts
pub data NamesFault (x : Expanded) (histories : List (List Event)) : List ℕ → Type 0 where
  bad_place : (role place : ℕ) (why : Why) → IsFirstBadPlace x histories role place why
      → NamesFault x histories (bad_place_line x role place why)
  cycle : (points : List Point) → IsOnlyCycle x histories points
      → NamesFault x histories (cycle_line x points)

-- no legal run gives each role its history, and the text says why
pub record SaysInconsistent (x : Expanded) (histories : List (List Event)) (out : List ℕ)
    (status : Status) : Type 0 where
  pub none : HasNoExplanation x histories
  pub text : NamesFault x histories out
  pub refuted : status ≡ Refuted

-- the answer says whether one run explains the histories
abbrev pub IsAudited : Expanded → List (List Event) → List ℕ → Status → Type 0
IsAudited x histories out status =
    SaysConsistent x histories out status ⊎ SaysInconsistent x histories out status

-- the part is the text of histories, and these are audited
pub record IsAuditAnswer (x : Expanded) (part out : List ℕ) (status : Status) : Type 0 where
  pub histories : List (List Event)
  pub read : IsHistoriesText x part histories
  pub answer : IsAudited x histories out status

-- the part is refused as a text of histories, for its first bad line
pub record IsAuditRefused (x : Expanded) (part : List ℕ) (rejection : Rejection) : Type 0 where
  pub refusal : HistoryRefusal
  pub refused : IsRefusedText x part refusal
  pub rejection_is : histories_rejection refusal ≡ Some rejection

-- it needs histories; its run may be another, and so may be its cycle
abbrev pub audit_rules : CommandRules
audit_rules = record {
  needs = Part part.Histories;
  answers = IsAuditAnswer;
  refuses = IsAuditRefused;
  is_determined = ⊥;
}
