-- When a role is accepted and when it is declined, in the order in which the reasons are judged.
use Rattle.std.specs.Prelude.{◌≡◌, ◌≢◌, ℕ, true, List, Some}
use Rattle.bspl_types.specs.declared.expanded.Expanded.{Expanded}
use Rattle.bspl_types.specs.declared.refusals.Refusal.{Refusal}
use Rattle.enactment_model.specs.Safety.{SafeProtocol}
use Rattle.refutation_log.specs.declared.refutation.Log.{Log}
use Rattle.report.specs.ExitStatus.{verdict_status}
use Rattle.report.specs.VerdictText.{verdict_text}
use Rattle.tool_input.specs.declared.rejection.Rejection.{Rejection}
use Rattle.tool_input.specs.declared.status.Status.{Status}
use Rattle.tool_input.specs.declared.status.Status.TheVariants.{Refused}
use Rattle.tool_input.specs.Input.{Declares}
use Rattle.tool_input.specs.Rejection.{rejection_line, text_rejection}
use Rattle.bspl_types.specs.NamedParts.{IsRoleNamed}
use Rattle.tool_input.specs.RoleName.{unknown_role}
use Rattle.tool_input.specs.TextRefusal.{RefusesText}
use Rattle.verdict.specs.declared.outcome.Safety.TheVariants as safety
use Rattle.verdict.specs.declared.outcome.Verdicts.{Verdicts}
use Rattle.verdict.specs.Verdicts.{AreRightAnswers}
use Rattle.live_role.specs.Request.{RoleRequest}

-- the answer is that of right verdicts, with 10000 conflicts each, and it is not found safe
pub record IsNotFoundSafe (x : Expanded) (out : List ℕ) (status : Status) : Type 0 where
  pub verdicts : Verdicts
  pub right : AreRightAnswers x 10000 verdicts
  pub not_safe : (log : Log) → verdicts.safety ≢ safety.Safe log
  pub text : out ≡ verdict_text x verdicts true
  pub ends : status ≡ verdict_status verdicts.safety verdicts.liveness

-- what is answered in place of serving a role of the protocol in the text
pub data Declines (r : RoleRequest) (text out : List ℕ) (status : Status) : Type 0 where
  -- the text declares nothing for the name
  no_protocol : (refusal : Refusal) (rejection : Rejection) → RefusesText r.name text refusal
      → text_rejection refusal ≡ Some rejection → out ≡ rejection_line rejection
      → status ≡ Refused → Declines r text out status
  -- its protocol has no such role
  no_role : (x : Expanded) → Declares r.name text x
      → ((index : ℕ) → ¬ IsRoleNamed x r.role index)
      → out ≡ rejection_line unknown_role → status ≡ Refused → Declines r text out status
  -- the protocol is to be judged, and is not found safe
  not_safe : (x : Expanded) (index : ℕ) → Declares r.name text x → IsRoleNamed x r.role index
      → r.checked ≡ true → IsNotFoundSafe x out status → Declines r text out status

-- the text declares the protocol, the role is one of it, and a protocol to be judged is safe
pub record AcceptsRole (r : RoleRequest) (text : List ℕ) (x : Expanded) (index : ℕ) : Type 0 where
  pub declared : Declares r.name text x
  pub is_role : IsRoleNamed x r.role index
  pub safe : r.checked ≡ true → SafeProtocol x
