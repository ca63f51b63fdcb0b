-- The laws of `audit`.
use Rattle.std.proofs.Common.{◌≡◌, ◌≢◌, ℕ, false, List, [], ◌∷◌, codes, Some, None, inl, inr, refl, sym, ◌∙◌, ap, subst}
use Rattle.std.specs.Fmt.{decimal}
use Rattle.std.specs.List.{flat_map, list_any}
use Rattle.std.specs.Prelude.{IfSome}
use Rattle.std.proofs.lemmas.Bool.{or_from}
use Rattle.bspl_types.specs.declared.event.Event.{Event}
use Rattle.bspl_types.specs.declared.expanded.Expanded.{Expanded}
use Rattle.bspl_types.specs.Admission.{IsAdmitted}
use Rattle.bspl_types.specs.Expansion.{role_name}
use Rattle.enactment_model.specs.declared.bad_event.Why.{Why}
use Rattle.history_audit.specs.declared.audit_no.Point.{Point}
use Rattle.history_audit.specs.declared.refusal.HistoryRefusal.{HistoryRefusal}
use Rattle.history_audit.specs.declared.refusal.HistoryRefusal.TheVariants.{Form, NoMemory}
use Rattle.history_audit.specs.TextLaws.{HistoriesAreRefusedOnce, ReadHistoriesAreNotRefused}
use Rattle.report.specs.AuditText.{bad_place_line, consistent_text, cycle_line, point_fields}
use Rattle.report.specs.ReplayLines.{reason_fields}
use Rattle.tool_input.specs.declared.rejection.Rejection.{Rejection}
use Rattle.tool_input.specs.declared.status.Status.{Status}
use Rattle.evidence_commands.specs.AuditAnswer.{IsAudited, IsAuditRefused, NamesFault, audit_rules, bad_place, cycle}
use Rattle.rejections.specs.PartRejection.{histories_rejection}
use Rattle.bspl_tool.proofs.ClaimsNothing.{IsBlock, block_joined}
use Rattle.bspl_tool.proofs.CommandLaws.{CommandLaws, honest_nothing}
use Rattle.bspl_tool.proofs.EvidenceLines.{run_is_block}
use Rattle.bspl_tool.proofs.FieldBytes.{fields_are_block, indexed_has_no_lf}
use Rattle.bspl_tool.proofs.RejectedNames.{HasNames}
use Rattle.bspl_tool.proofs.ReplayLaws.{reason_has_no_lf}
use Rattle.bspl_tool.proofs.Unbroken.{decimal_has_no_lf, has_lf}

-- a text is read or refused, and refused once
pub record OneAudit : Type 0 where
  pub refusals : HistoriesAreRefusedOnce
  pub exclusive : ReadHistoriesAreNotRefused

-- a refusal that is written is not that memory ran out
not_memory : (refusal : HistoryRefusal) (r : Rejection) → histories_rejection refusal ≡ Some r → refusal ≢ NoMemory
not_memory refusal r is out_of_memory = let none : None ≡ Some r = ap histories_rejection (sym out_of_memory) ∙ is in absurd (cc)

-- the part is refused for one line
refused_once : OneAudit → (x : Expanded) (part : List ℕ) (r s : Rejection) → IsAdmitted x → IsAuditRefused x part r → IsAuditRefused x part s → r ≡ s
refused_once once x part r s admitted one other =
    let same = once.refusals x part one.refusal other.refusal admitted (not_memory one.refusal r one.rejection_is) (not_memory other.refusal s other.rejection_is) one.refused other.refused in
    let rejections : Some r ≡ Some s = sym one.rejection_is ∙ ap histories_rejection same ∙ other.rejection_is in
    cc

-- a line of a text is no name
line_names : (refusal : HistoryRefusal) → IfSome (histories_rejection refusal) HasNames
line_names (Form number) = record { first = tt; second = tt }
line_names NoMemory = tt

-- the name of a role
pub role_has_no_lf : (x : Expanded) (role : ℕ) → has_lf (role_name x role) ≡ false
role_has_no_lf x role = indexed_has_no_lf (λ (name : List ℕ). name) [] refl x.roles x.shape.role_names.named role

-- the line of a bad place
bad_place_is_block : (x : Expanded) (role place : ℕ) (why : Why) → IsBlock (bad_place_line x role place why)
bad_place_is_block x role place why =
    fields_are_block (codes "inconsistent" ∷ role_name x role ∷ decimal place ∷ reason_fields x why)
    (or_from (has_lf (role_name x role)) _ (role_has_no_lf x role) (or_from (has_lf (decimal place)) _ (decimal_has_no_lf place) (reason_has_no_lf x why))) refl

-- the fields of points
points_have_no_lf : (x : Expanded) (points : List Point) → list_any has_lf (flat_map (point_fields x) points) ≡ false
points_have_no_lf x [] = refl
points_have_no_lf x (p ∷ points) =
    or_from (has_lf (role_name x p.role)) _ (role_has_no_lf x p.role) (or_from (has_lf (decimal p.place)) _ (decimal_has_no_lf p.place) (points_have_no_lf x points))

-- the line of a cycle
cycle_is_block : (x : Expanded) (points : List Point) → IsBlock (cycle_line x points)
cycle_is_block x points = fields_are_block (codes "inconsistent" ∷ codes "cycle" ∷ flat_map (point_fields x) points) (points_have_no_lf x points) refl

-- the text with a run
consistent_is_block : (x : Expanded) (run : List Event) → IsBlock (consistent_text x run)
consistent_is_block x run = block_joined (fields_are_block (codes "consistent" ∷ []) refl refl) (run_is_block x run)

-- a text that names a fault
fault_is_block : (x : Expanded) (histories : List (List Event)) {out : List ℕ} → NamesFault x histories out → IsBlock out
fault_is_block x histories (bad_place role place why first) = bad_place_is_block x role place why
fault_is_block x histories (cycle points only) = cycle_is_block x points

-- so no answer claims something of the protocol
audited_is_block : (x : Expanded) (histories : List (List Event)) (out : List ℕ) (status : Status) → IsAudited x histories out status → IsBlock out
audited_is_block x histories out status (inl says) = subst IsBlock (sym says.text) (consistent_is_block x says.run)
audited_is_block x histories out status (inr says) = fault_is_block x histories says.text

-- the laws of the command
pub audit_laws : CommandLaws OneAudit audit_rules
audit_laws = record {
  honest = λ x part out status n answer. honest_nothing x out n (audited_is_block x answer.histories out status answer.answer).nothing;
  names = λ x part r refused. subst (λ o. IfSome o HasNames) refused.rejection_is (line_names refused.refusal);
  distinct = λ once x part out status r admitted answer refused. once.exclusive x part answer.histories refused.refusal admitted (not_memory refused.refusal r refused.rejection_is) answer.read refused.refused;
  one_refusal = λ once x part r s admitted one other. refused_once once x part r s admitted one other;
  one_answer = λ once x part out out' status status' admitted determined one other. absurd determined;
}
