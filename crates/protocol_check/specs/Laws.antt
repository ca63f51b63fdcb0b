-- A log is accepted for a formula, or has one first failure, and so is its text. Each statement is
-- the contract of a function.
use Rattle.std.specs.Prelude.{◌≡◌, ◌≢◌, ℕ, List}
use Rattle.bspl_types.specs.declared.expanded.Expanded.{Expanded}
use Rattle.bspl_types.specs.declared.property.Property.{Property}
use Rattle.bspl_types.specs.declared.property.Property.TheVariants.{Liveness, Safety}
use Rattle.log_checker.specs.declared.refusal.Reject.{Reject}
use Rattle.refutation_log.specs.declared.refusal.LogRefusal.{LogRefusal}
use Rattle.refutation_log.specs.declared.refusal.LogRefusal.TheVariants.{NoMemory}
use Rattle.refutation_log.specs.declared.refutation.Kind.{Kind}
use Rattle.refutation_log.specs.declared.refutation.Log.{Log}
use Rattle.refutation_log.specs.LogText.{IsTextOf, log_text}
use Rattle.refutation_log.specs.NumberRange.{LogInRange}
use Rattle.refutation_log.specs.Refusal.{IsRefusedLog}
use Rattle.protocol_check.specs.Check.{AcceptsLog, FailsLog, property_of}

-- for the formula of the property a log has one first failure at most
abbrev pub FailsOnceFor : Property → Type 0
FailsOnceFor property =
    (x : Expanded) (log : Log) (first second : Reject) →
    FailsLog property x log first → FailsLog property x log second → first ≡ second

-- and none if it is accepted
abbrev pub AcceptedDoesNotFailFor : Property → Type 0
AcceptedDoesNotFailFor property =
    (x : Expanded) (log : Log) (reject : Reject) →
    AcceptsLog property x log → ¬ FailsLog property x log reject

-- so it is for each property
abbrev pub LogFailsOnce : Type 0
LogFailsOnce = (property : Property) → FailsOnceFor property

abbrev pub AcceptedLogDoesNotFail : Type 0
AcceptedLogDoesNotFail = (property : Property) → AcceptedDoesNotFailFor property

-- for safety
abbrev pub SafetyFailsOnce : Type 0
SafetyFailsOnce = FailsOnceFor Safety

abbrev pub AcceptedSafetyDoesNotFail : Type 0
AcceptedSafetyDoesNotFail = AcceptedDoesNotFailFor Safety

-- and for liveness
abbrev pub LivenessFailsOnce : Type 0
LivenessFailsOnce = FailsOnceFor Liveness

abbrev pub AcceptedLivenessDoesNotFail : Type 0
AcceptedLivenessDoesNotFail = AcceptedDoesNotFailFor Liveness

-- the text is that of one log of this kind, which is accepted: it is refused for nothing, and does
-- not fail
pub record IsAcceptedText (x : Expanded) (kind : Kind) (text : List ℕ) : Type 0 where
  pub log : Log
  pub is_text : IsTextOf text kind log
  pub accepts : AcceptsLog (property_of kind) x log
  pub only : (other : Kind) (read : Log) → IsTextOf text other read → (other ≡ kind) × (read ≡ log)
  pub unrefused : (refusal : LogRefusal) → refusal ≢ NoMemory → ¬ IsRefusedLog text refusal
  pub unfailed : (reject : Reject) → ¬ FailsLog (property_of kind) x log reject

-- what is written of an accepted log is accepted
abbrev pub WrittenLogIsAccepted : Type 0
WrittenLogIsAccepted =
    (x : Expanded) (kind : Kind) (log : Log) → LogInRange log →
    AcceptsLog (property_of kind) x log → IsAcceptedText x kind (log_text kind log)
