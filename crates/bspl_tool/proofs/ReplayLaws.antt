-- The laws of `replay`.
use Rattle.std.proofs.Common.{◌≡◌, ◌≢◌, ℕ, false, List, [], ◌∷◌, ◌++◌, length, map, codes, Some, None, inl, inr, refl, sym, ◌∙◌, ap, subst}
use Rattle.std.specs.Fmt.{decimal}
use Rattle.std.specs.List.{AllZip, concat, list_any}
use Rattle.std.specs.Prelude.{IfSome}
use Rattle.std.proofs.lemmas.Bool.{or_from}
use Rattle.bspl_types.specs.declared.event.Event.{Event}
use Rattle.bspl_types.specs.declared.expanded.Expanded.{Expanded}
use Rattle.bspl_types.specs.declared.value.Value.{Value}
use Rattle.bspl_types.specs.Admission.{IsAdmitted}
use Rattle.bspl_types.specs.Expansion.{message_of, param_name}
use Rattle.bspl_types.specs.ValueSpelling.{value_spelling}
use Rattle.enactment_model.specs.declared.bad_event.Why.{Why}
use Rattle.enactment_model.specs.declared.bad_event.Why.TheVariants.{Missing, Bound, Other, Unsent}
use Rattle.enactment_model.specs.declared.bad_event.BadEvent.{BadEvent}
use Rattle.enactment_model.specs.declared.conflicts.Conflict.{Conflict}
use Rattle.refutation_log.specs.LogText.{line_of}
use Rattle.report.specs.declared.status.Status.{Status as KeyStatus}
use Rattle.report.specs.declared.status.Status.TheVariants.{Loose, Incomplete, Complete}
use Rattle.report.specs.Keys.{reported_keys}
use Rattle.report.specs.Laws.{ReplayIsOnce}
use Rattle.report.specs.ReplayLines.{conflict_line, illegal_line, legal_line, reason_fields, status_fields}
use Rattle.report.specs.ReplayText.{IsConflictLine, IsKeyLine, IsReplayText}
use Rattle.run_text.specs.declared.refusal.RunRefusal.{RunRefusal}
use Rattle.run_text.specs.declared.refusal.RunRefusal.TheVariants.{Form, NoMemory}
use Rattle.run_text.specs.Refusal.{RunIsNotRefused, TextHasOneBadLine, TextHasOneRun}
use Rattle.tool_input.specs.declared.rejection.Rejection.{Rejection}
use Rattle.tool_input.specs.declared.status.Status.{Status}
use Rattle.bspl_tool.specs.Laws.{IsOutput}
use Rattle.rejections.specs.PartRejection.{run_rejection}
use Rattle.evidence_commands.specs.ReplayAnswer.{IsReplayAnswer, IsReplayRefused, SaysLegal, replay_rules}
use Rattle.bspl_tool.proofs.ClaimsNothing.{IsBlock, block_joined, claims, no_lines}
use Rattle.bspl_tool.proofs.CommandLaws.{CommandLaws, honest_nothing}
use Rattle.bspl_tool.proofs.EvidenceLines.{message_has_no_lf, param_has_no_lf}
use Rattle.bspl_tool.proofs.FieldBytes.{fields_are_block, value_has_no_lf}
use Rattle.bspl_tool.proofs.RejectedNames.{HasNames}
use Rattle.bspl_tool.proofs.Unbroken.{decimal_has_no_lf, has_lf}

-- a text is read once, and a run has one report
pub record OneReplay : Type 0 where
  pub runs : TextHasOneRun
  pub refusals : TextHasOneBadLine
  pub exclusive : RunIsNotRefused
  pub reports : ReplayIsOnce

-- a refusal that is written is not that memory ran out
not_memory : (refusal : RunRefusal) (r : Rejection) → run_rejection refusal ≡ Some r → refusal ≢ NoMemory
not_memory refusal r is out_of_memory = let none : None ≡ Some r = ap run_rejection (sym out_of_memory) ∙ is in absurd (cc)

-- the part is refused for one line
refused_once : OneReplay → (x : Expanded) (part : List ℕ) (r s : Rejection) → IsReplayRefused x part r → IsReplayRefused x part s → r ≡ s
refused_once once x part r s one other =
    let same = once.refusals x part one.refusal other.refusal (not_memory one.refusal r one.rejection_is) (not_memory other.refusal s other.rejection_is) one.refused other.refused in
    let rejections : Some r ≡ Some s = sym one.rejection_is ∙ ap run_rejection same ∙ other.rejection_is in
    cc

-- why an event may not follow
pub reason_has_no_lf : (x : Expanded) (why : Why) → list_any has_lf (reason_fields x why) ≡ false
reason_has_no_lf x (Missing p) = or_from (has_lf (param_name x p)) false (param_has_no_lf x p) refl
reason_has_no_lf x (Bound p kept) = or_from (has_lf (param_name x p)) _ (param_has_no_lf x p) (or_from (has_lf (value_spelling kept)) false (value_has_no_lf kept) refl)
reason_has_no_lf x (Other p kept) = or_from (has_lf (param_name x p)) _ (param_has_no_lf x p) (or_from (has_lf (value_spelling kept)) false (value_has_no_lf kept) refl)
reason_has_no_lf x Unsent = refl

-- the line of an illegal run
illegal_is_block : (x : Expanded) (bad : BadEvent) → IsBlock (illegal_line x bad)
illegal_is_block x bad =
    fields_are_block (codes "illegal" ∷ decimal bad.place ∷ reason_fields x bad.why) (or_from (has_lf (decimal bad.place)) _ (decimal_has_no_lf bad.place) (reason_has_no_lf x bad.why)) refl

-- the first line of a legal one
legal_is_block : (run : List Event) → IsBlock (legal_line run)
legal_is_block run = fields_are_block (codes "legal" ∷ decimal (length run) ∷ []) (or_from (has_lf (decimal (length run))) false (decimal_has_no_lf (length run)) refl) refl

-- the line of a conflict
found_is_block : (x : Expanded) (found : Conflict) → IsBlock (conflict_line x found)
found_is_block x found =
    fields_are_block (codes "conflict" ∷ param_name x found.param ∷ decimal found.first ∷ decimal found.second ∷ [])
    (or_from (has_lf (param_name x found.param)) _ (param_has_no_lf x found.param) (or_from (has_lf (decimal found.first)) _ (decimal_has_no_lf found.first) (or_from (has_lf (decimal found.second)) false (decimal_has_no_lf found.second) refl))) refl

-- or that there is none
conflict_is_block : (x : Expanded) (run : List Event) (line : List ℕ) → IsConflictLine x run line → IsBlock line
conflict_is_block x run line (inl none) = subst IsBlock (sym none.1) (fields_are_block (codes "no" ∷ codes "conflict" ∷ []) refl refl)
conflict_is_block x run line (inr some) = subst IsBlock (sym some.line_is) (found_is_block x some.found)

-- how an enactment is left
status_has_no_lf : (x : Expanded) (status : KeyStatus) → list_any has_lf (status_fields x status) ≡ false
status_has_no_lf x (Loose m) = or_from (has_lf (message_of x m).name) false (message_has_no_lf x m) refl
status_has_no_lf x (Incomplete p) = or_from (has_lf (param_name x p)) false (param_has_no_lf x p) refl
status_has_no_lf x Complete = refl

-- the values of its key before that
key_has_no_lf : (x : Expanded) (key : List Value) (status : KeyStatus) → list_any has_lf (map value_spelling key ++ status_fields x status) ≡ false
key_has_no_lf x [] status = status_has_no_lf x status
key_has_no_lf x (v ∷ key) status = or_from (has_lf (value_spelling v)) _ (value_has_no_lf v) (key_has_no_lf x key status)

-- the line of a key claims nothing, whatever its fields
key_is_no_claim : (fields : List (List ℕ)) → claims (line_of (codes "key" ∷ fields)) ≡ false
key_is_no_claim [] = refl
key_is_no_claim (field ∷ fields) = refl

-- the lines of keys
keys_are_block : (x : Expanded) (run : List Event) (keys : List (List Value)) (lines : List (List ℕ)) → AllZip (IsKeyLine x run) keys lines → IsBlock (concat lines)
keys_are_block x run [] [] each = no_lines
keys_are_block x run [] (line ∷ lines) each = absurd each
keys_are_block x run (key ∷ keys) [] each = absurd each
keys_are_block x run (key ∷ keys) (line ∷ lines) each =
    let one = each.0 in
    block_joined (subst IsBlock (sym one.line_is) (fields_are_block (codes "key" ∷ (map value_spelling key ++ status_fields x one.status)) (key_has_no_lf x key one.status) (key_is_no_claim (map value_spelling key ++ status_fields x one.status)))) (keys_are_block x run keys lines each.1)

-- the text that reports on a run claims nothing of the protocol
report_is_block : (x : Expanded) (run : List Event) (text : List ℕ) → IsReplayText x run text → IsBlock text
report_is_block x run text (inl illegal) = subst IsBlock (sym illegal.text_is) (illegal_is_block x illegal.bad)
report_is_block x run text (inr legal) =
    let lines = block_joined (block_joined (legal_is_block run) (conflict_is_block x run legal.conflict legal.is_conflict)) (keys_are_block x run (reported_keys x run) legal.keys legal.are_keys) in
    subst IsBlock (sym legal.text_is) lines

-- a line of a text is no name
line_names : (refusal : RunRefusal) → IfSome (run_rejection refusal) HasNames
line_names (Form number) = record { first = tt; second = tt }
line_names NoMemory = tt

-- a run has one status
same_status : (x : Expanded) (run : List Event) (status status' : Status) → SaysLegal x run status → SaysLegal x run status' → status ≡ status'
same_status x run status status' (inl one) (inl other) = one.1 ∙ sym other.1
same_status x run status status' (inl one) (inr other) = absurd (other.0 one.0)
same_status x run status status' (inr one) (inl other) = absurd (one.0 other.0)
same_status x run status status' (inr one) (inr other) = one.1 ∙ sym other.1

-- two answers on one run are one
replayed_once : OneReplay → (x : Expanded) (part out out' : List ℕ) (status status' : Status) → IsAdmitted x → IsReplayAnswer x part out status → IsReplayAnswer x part out' status' → IsOutput out status out' status'
replayed_once once x part out out' status status' admitted one other =
    let same = once.runs x part other.run one.run admitted other.read one.read in (
      once.reports x one.run out out' admitted one.text (subst (λ run. IsReplayText x run out') same other.text),
      same_status x one.run status status' one.legal (subst (λ run. SaysLegal x run status') same other.legal),
    )

-- the laws of the command
pub replay_laws : CommandLaws OneReplay replay_rules
replay_laws = record {
  honest = λ x part out status n answer. honest_nothing x out n (report_is_block x answer.run out answer.text).nothing;
  names = λ x part r refused. subst (λ o. IfSome o HasNames) refused.rejection_is (line_names refused.refusal);
  distinct = λ once x part out status r admitted answer refused. once.exclusive x part answer.run refused.refusal (not_memory refused.refusal r refused.rejection_is) answer.read refused.refused;
  one_refusal = λ once x part r s admitted one other. refused_once once x part r s one other;
  one_answer = λ once x part out out' status status' admitted determined one other. replayed_once once x part out out' status status' admitted one other;
}
