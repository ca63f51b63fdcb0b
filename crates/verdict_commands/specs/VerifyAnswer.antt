-- What `verify` answers on an admitted protocol.
use Rattle.std.specs.Prelude.{◌≡◌, ℕ, Bool, List}
use Rattle.bspl_types.specs.declared.expanded.Expanded.{Expanded}
use Rattle.enactment_model.specs.Producers.{HasOneProducer}
use Rattle.report.specs.ExitStatus.{verdict_status}
use Rattle.report.specs.VerdictText.{verdict_text}
use Rattle.verdict.specs.declared.outcome.Verdicts.{Verdicts}
use Rattle.verdict.specs.Right.{IsSafeByEmptyLog}
use Rattle.verdict.specs.Verdicts.{AreRightAnswers}
use Rattle.tool_input.specs.declared.status.Status.{Status}
use Rattle.tool_input.specs.declared.need.Need.TheVariants.{Nothing}
use Rattle.tool_input.specs.Rules.{CommandRules, NeverRefuses}

-- the verdicts are right, and this is their text; without rival producers the protocol is safe by
-- an empty log
pub record IsVerdictAnswer (brief : Bool) (budget : ℕ) (x : Expanded) (v : Verdicts)
    (out : List ℕ) : Type 0 where
  pub right : AreRightAnswers x budget v
  pub single : HasOneProducer x → IsSafeByEmptyLog v.safety
  pub text : out ≡ verdict_text x v brief

-- the text and the status of some right verdicts
pub record IsVerifyAnswer (brief : Bool) (budget : ℕ) (x : Expanded) (out : List ℕ)
    (status : Status) : Type 0 where
  pub verdicts : Verdicts
  pub answer : IsVerdictAnswer brief budget x verdicts out
  pub ends : status ≡ verdict_status verdicts.safety verdicts.liveness

-- it needs nothing more, and answers each admitted protocol; its evidence may be another
abbrev pub verify_rules : Bool → ℕ → CommandRules
verify_rules brief budget = record {
  needs = Nothing;
  answers = λ x given. IsVerifyAnswer brief budget x;
  refuses = NeverRefuses;
  is_determined = ⊥;
}
