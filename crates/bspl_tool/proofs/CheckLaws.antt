-- The laws of `check`.
use Rattle.std.proofs.Common.{◌≡◌, ◌≢◌, ◌⊎◌, ℕ, false, List, ◌++◌, take, codes, Some, None, inl, inr, refl, sym, ◌∙◌, ap, subst}
use Rattle.std.specs.Fmt.{decimal}
use Rattle.std.specs.Prelude.{IfSome}
use Rattle.bspl_types.specs.declared.expanded.Expanded.{Expanded}
use Rattle.rejections.specs.PartRejection.{log_rejection}
use Rattle.rejections.specs.FailureLine.{reject_line, reject_words}
use Rattle.log_checker.specs.declared.refusal.Reject.{Reject}
use Rattle.log_checker.specs.declared.refusal.Reject.TheVariants.{NoClause, NoDrop, NoMemory, NoPivot, NotEmpty}
use Rattle.enactment_model.specs.Property.{Holds}
use Rattle.protocol_check.specs.Check.{property_of}
use Rattle.protocol_check.specs.Laws.{AcceptedLogDoesNotFail, LogFailsOnce}
use Rattle.refutation_log.specs.declared.refusal.LogRefusal.{LogRefusal}
use Rattle.refutation_log.specs.declared.refusal.LogRefusal.TheVariants as log
use Rattle.refutation_log.specs.declared.refutation.Kind.{Kind}
use Rattle.refutation_log.specs.declared.refutation.Kind.TheVariants.{Liveness, Safety}
use Rattle.refutation_log.specs.declared.refutation.Log.{Log}
use Rattle.refutation_log.specs.LogText.{IsTextOf}
use Rattle.refutation_log.specs.TextLaws.{LogIsNotRefused, TextHasOneLog, TextHasOneRefusal}
use Rattle.tool_input.specs.declared.rejection.Rejection.{Rejection}
use Rattle.tool_input.specs.declared.status.Status.{Status}
use Rattle.evidence_commands.specs.CheckAnswer.{IsCheckAnswer, IsCheckRefused, SaysAccepted, SaysRejected, check_rules, accepted_kind_line}
use Rattle.bspl_tool.specs.Laws.{IsOutput}
use Rattle.tool_input.specs.Lines.{line}
use Rattle.bspl_tool.proofs.ClaimsNothing.{ClaimsNothing, line_claims_nothing}
use Rattle.bspl_tool.proofs.CommandLaws.{CommandLaws, IsHonest, honest_if, honest_nothing}
use Rattle.bspl_tool.proofs.RejectedNames.{HasNames}
use Rattle.bspl_tool.proofs.Unbroken.{decimal_has_no_lf, has_lf, joined_has_none}

-- a text is read once, and a log is accepted or fails once
pub record OneCheck : Type 0 where
  pub logs : TextHasOneLog
  pub refusals : TextHasOneRefusal
  pub exclusive : LogIsNotRefused
  pub failure : LogFailsOnce
  pub accepted : AcceptedLogDoesNotFail

-- a refusal that is written is not that memory ran out
pub not_memory : (refusal : LogRefusal) (r : Rejection) → log_rejection refusal ≡ Some r → refusal ≢ log.NoMemory
not_memory refusal r is out_of_memory = let none : None ≡ Some r = ap log_rejection (sym out_of_memory) ∙ is in absurd (cc)

-- the text of a log is not refused
read_or_refused : OneCheck → (part : List ℕ) (kind : Kind) (of : Log) (r : Rejection) → IsTextOf part kind of → IsCheckRefused part r → ⊥
read_or_refused once part kind of r read refused = once.exclusive part kind of refused.refusal (not_memory refused.refusal r refused.rejection_is) read refused.refused

-- the part is refused for one line
refused_once : OneCheck → (part : List ℕ) (r s : Rejection) → IsCheckRefused part r → IsCheckRefused part s → r ≡ s
refused_once once part r s one other =
    let same = once.refusals part one.refusal other.refusal (not_memory one.refusal r one.rejection_is) (not_memory other.refusal s other.rejection_is) one.refused other.refused in
    let rejections : Some r ≡ Some s = sym one.rejection_is ∙ ap log_rejection same ∙ other.rejection_is in
    cc

-- a first failure has no LF
reject_has_no_lf : (reject : Reject) → has_lf (reject_words reject) ≡ false
reject_has_no_lf (NoClause step) =
    let front = codes "rejected step " in
    joined_has_none 10 (front ++ decimal step) (codes " clause") (joined_has_none 10 front (decimal step) refl (decimal_has_no_lf step)) refl
reject_has_no_lf (NoPivot step link) =
    let front = codes "rejected step " in
    let middle = joined_has_none 10 (front ++ decimal step) (codes " link ") (joined_has_none 10 front (decimal step) refl (decimal_has_no_lf step)) refl in
    joined_has_none 10 (front ++ decimal step ++ codes " link ") (decimal link) middle (decimal_has_no_lf link)
reject_has_no_lf (NoDrop after item) =
    let front = codes "rejected drop " in
    let middle = joined_has_none 10 (front ++ decimal after) (codes " ") (joined_has_none 10 front (decimal after) refl (decimal_has_no_lf after)) refl in
    joined_has_none 10 (front ++ decimal after ++ codes " ") (decimal item) middle (decimal_has_no_lf item)
reject_has_no_lf NotEmpty = refl
reject_has_no_lf NoMemory = refl

-- and claims nothing
pub reject_claims_nothing : (reject : Reject) → ClaimsNothing (reject_line reject)
reject_claims_nothing (NoClause step) = line_claims_nothing (reject_words (NoClause step)) (reject_has_no_lf (NoClause step)) refl
reject_claims_nothing (NoPivot step link) = line_claims_nothing (reject_words (NoPivot step link)) (reject_has_no_lf (NoPivot step link)) refl
reject_claims_nothing (NoDrop after item) = line_claims_nothing (reject_words (NoDrop after item)) (reject_has_no_lf (NoDrop after item)) refl
reject_claims_nothing NotEmpty = line_claims_nothing (reject_words NotEmpty) refl refl
reject_claims_nothing NoMemory = line_claims_nothing (reject_words NoMemory) refl refl

-- the line of an accepted log claims one property, which is true
accepted_is_honest : (x : Expanded) (kind : Kind) (n : ℕ) → Holds (property_of kind) x → IsHonest x (take n (line (accepted_kind_line kind)))
accepted_is_honest x Safety n holds = honest_if x (line (accepted_kind_line Safety)) n (inl holds) (inr (record { first = refl; later = refl })) (λ name field. record { first = refl; later = refl })
accepted_is_honest x Liveness n holds = honest_if x (line (accepted_kind_line Liveness)) n (inr (record { first = refl; later = refl })) (inl holds) (λ name field. record { first = refl; later = refl })

-- an answer claims only what is true
check_is_honest : (x : Expanded) (part out : List ℕ) (status : Status) (n : ℕ) → IsCheckAnswer x part out status → IsHonest x (take n out)
check_is_honest x part out status n answer =
    elim answer.answer [
      | inl says ↦ subst (λ text. IsHonest x (take n text)) (sym says.text) (accepted_is_honest x answer.kind n says.holds)
      | inr rejected ↦ honest_nothing x out n (subst ClaimsNothing (sym rejected.text) (reject_claims_nothing rejected.reject))
    ]

-- a line of a text is no name
pub line_names : (refusal : LogRefusal) → IfSome (log_rejection refusal) HasNames
line_names (log.Form number) = record { first = tt; second = tt }
line_names (log.Number number) = record { first = tt; second = tt }
line_names log.NoMemory = tt

-- so its refusals have no names but such
check_names : (part : List ℕ) (r : Rejection) → IsCheckRefused part r → HasNames r
check_names part r refused = subst (λ o. IfSome o HasNames) refused.rejection_is (line_names refused.refusal)

-- two answers on one log are one
same_answer : OneCheck → (x : Expanded) (kind : Kind) (of : Log) (out out' : List ℕ) (status status' : Status) → SaysAccepted x kind of out status ⊎ SaysRejected x kind of out status → SaysAccepted x kind of out' status' ⊎ SaysRejected x kind of out' status' → IsOutput out status out' status'
same_answer once x kind of out out' status status' (inl one) (inl other) = (one.text ∙ sym other.text, one.done ∙ sym other.done)
same_answer once x kind of out out' status status' (inl one) (inr other) = absurd (once.accepted (property_of kind) x of other.reject one.accepts other.fails)
same_answer once x kind of out out' status status' (inr one) (inl other) = absurd (once.accepted (property_of kind) x of one.reject other.accepts one.fails)
same_answer once x kind of out out' status status' (inr one) (inr other) =
    (one.text ∙ ap (λ reject. reject_line reject) (once.failure (property_of kind) x of one.reject other.reject one.fails other.fails) ∙ sym other.text, one.refuted ∙ sym other.refuted)

-- and so on one part
checked_once : OneCheck → (x : Expanded) (part out out' : List ℕ) (status status' : Status) → IsCheckAnswer x part out status → IsCheckAnswer x part out' status' → IsOutput out status out' status'
checked_once once x part out out' status status' one other =
    let same = once.logs part other.kind one.kind other.log one.log other.read one.read in
    let as_one = subst (λ kind. SaysAccepted x kind other.log out' status' ⊎ SaysRejected x kind other.log out' status') same.0 other.answer in
    same_answer once x one.kind one.log out out' status status' one.answer (subst (λ of. SaysAccepted x one.kind of out' status' ⊎ SaysRejected x one.kind of out' status') same.1 as_one)

-- the laws of the command
pub check_laws : CommandLaws OneCheck check_rules
check_laws = record {
  honest = check_is_honest;
  names = λ x part r refused. check_names part r refused;
  distinct = λ once x part out status r admitted answer refused. read_or_refused once part answer.kind answer.log r answer.read refused;
  one_refusal = λ once x part r s admitted one other. refused_once once part r s one other;
  one_answer = λ once x part out out' status status' admitted determined one other. checked_once once x part out out' status status' one other;
}
