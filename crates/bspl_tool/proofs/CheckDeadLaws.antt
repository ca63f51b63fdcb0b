-- The laws of `check-dead`.
use Rattle.std.proofs.Common.{◌≡◌, ◌⊎◌, ℕ, List, codes, Some, inl, inr, refl, sym, ◌∙◌, ap, subst}
use Rattle.std.specs.Prelude.{IfSome}
use Rattle.bspl_types.specs.declared.expanded.Expanded.{Expanded}
use Rattle.bspl_types.specs.Expansion.{message_name}
use Rattle.enactability.specs.DeadText.{IsDeadText}
use Rattle.enactability.specs.Laws.{AcceptedDeadDoesNotFail, DeadLogFailsOnce, DeadLogIsNotRefused, TextHasOneDeadLog, TextHasOneDeadRefusal}
use Rattle.rejections.specs.PartRejection.{log_rejection}
use Rattle.rejections.specs.FailureLine.{reject_line}
use Rattle.refutation_log.specs.declared.refutation.Log.{Log}
use Rattle.tool_input.specs.declared.rejection.Rejection.{Rejection}
use Rattle.tool_input.specs.declared.status.Status.{Status}
use Rattle.tool_input.specs.Lines.{line}
use Rattle.evidence_commands.specs.CheckDeadAnswer.{IsCheckDeadAnswer, IsCheckDeadRefused, SaysAcceptedDead, SaysRejectedDead, check_dead_rules}
use Rattle.bspl_tool.specs.Laws.{IsOutput}
use Rattle.evidence_commands.specs.CheckDeadAnswer.{accepted_dead_line}
use Rattle.bspl_tool.proofs.CheckLaws.{line_names, not_memory, reject_claims_nothing}
use Rattle.bspl_tool.proofs.ClaimsNothing.{ClaimsNothing, line_claims_nothing}
use Rattle.bspl_tool.proofs.CommandLaws.{CommandLaws, honest_nothing}
use Rattle.bspl_tool.proofs.EvidenceLines.{message_has_no_lf}
use Rattle.bspl_tool.proofs.RejectedNames.{HasNames}
use Rattle.bspl_tool.proofs.Unbroken.{joined_has_none}

-- a text is read once, and a log is accepted or fails once
pub record OneCheckDead : Type 0 where
  pub logs : TextHasOneDeadLog
  pub refusals : TextHasOneDeadRefusal
  pub exclusive : DeadLogIsNotRefused
  pub failure : DeadLogFailsOnce
  pub accepted : AcceptedDeadDoesNotFail

-- the text of a log on a message is not refused
read_or_refused : OneCheckDead → (x : Expanded) (part : List ℕ) (m : ℕ) (log : Log) (r : Rejection) → IsCheckDeadRefused x part r → IsDeadText x part m log → ⊥
read_or_refused once x part m log r refused read =
    once.exclusive x part m log refused.refusal (not_memory refused.refusal r refused.rejection_is) read refused.refused

-- the part is refused for one line
refused_once : OneCheckDead → (x : Expanded) (part : List ℕ) (r s : Rejection) → IsCheckDeadRefused x part r → IsCheckDeadRefused x part s → r ≡ s
refused_once once x part r s one other =
    let same = once.refusals x part one.refusal other.refusal (not_memory one.refusal r one.rejection_is) (not_memory other.refusal s other.rejection_is) one.refused other.refused in
    let rejections : Some r ≡ Some s = sym one.rejection_is ∙ ap log_rejection same ∙ other.rejection_is in
    cc

-- the line of an accepted log claims no property of the protocol
accepted_claims_nothing : (x : Expanded) (m : ℕ) → ClaimsNothing (line (accepted_dead_line (message_name x m)))
accepted_claims_nothing x m = line_claims_nothing (accepted_dead_line (message_name x m)) (joined_has_none 10 (codes "accepted dead ") (message_name x m) refl (message_has_no_lf x m)) refl

-- nor does that of one that is not accepted
answer_claims_nothing : (x : Expanded) (m : ℕ) (log : Log) (out : List ℕ) (status : Status) → SaysAcceptedDead x m log out status ⊎ SaysRejectedDead x m log out status → ClaimsNothing out
answer_claims_nothing x m log out status (inl says) = subst ClaimsNothing (sym says.text) (accepted_claims_nothing x m)
answer_claims_nothing x m log out status (inr rejected) = subst ClaimsNothing (sym rejected.text) (reject_claims_nothing rejected.reject)

-- two answers on one log are one
same_answer : OneCheckDead → (x : Expanded) (m : ℕ) (log : Log) (out out' : List ℕ) (status status' : Status) → SaysAcceptedDead x m log out status ⊎ SaysRejectedDead x m log out status → SaysAcceptedDead x m log out' status' ⊎ SaysRejectedDead x m log out' status' → IsOutput out status out' status'
same_answer once x m log out out' status status' (inl one) (inl other) = (one.text ∙ sym other.text, one.done ∙ sym other.done)
same_answer once x m log out out' status status' (inl one) (inr other) = absurd (once.accepted x m log other.reject one.accepts other.fails)
same_answer once x m log out out' status status' (inr one) (inl other) = absurd (once.accepted x m log one.reject other.accepts one.fails)
same_answer once x m log out out' status status' (inr one) (inr other) =
    (one.text ∙ ap (λ reject. reject_line reject) (once.failure x m log one.reject other.reject one.fails other.fails) ∙ sym other.text, one.refuted ∙ sym other.refuted)

-- and so on one part
checked_once : OneCheckDead → (x : Expanded) (part out out' : List ℕ) (status status' : Status) → IsCheckDeadAnswer x part out status → IsCheckDeadAnswer x part out' status' → IsOutput out status out' status'
checked_once once x part out out' status status' one other =
    let same = once.logs x part other.message one.message other.log one.log other.read one.read in
    let as_one = subst (λ m. SaysAcceptedDead x m other.log out' status' ⊎ SaysRejectedDead x m other.log out' status') same.0 other.answer in
    same_answer once x one.message one.log out out' status status' one.answer (subst (λ log. SaysAcceptedDead x one.message log out' status' ⊎ SaysRejectedDead x one.message log out' status') same.1 as_one)

-- the laws of the command
pub check_dead_laws : CommandLaws OneCheckDead check_dead_rules
check_dead_laws = record {
  honest = λ x part out status n answer. honest_nothing x out n (answer_claims_nothing x answer.message answer.log out status answer.answer);
  names = λ x part r refused. subst (λ o. IfSome o HasNames) refused.rejection_is (line_names refused.refusal);
  distinct = λ once x part out status r admitted answer refused. read_or_refused once x part answer.message answer.log r refused answer.read;
  one_refusal = λ once x part r s admitted one other. refused_once once x part r s one other;
  one_answer = λ once x part out out' status status' admitted determined one other. checked_once once x part out out' status status' one other;
}
