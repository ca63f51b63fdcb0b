-- The laws of `verify`.
use Rattle.std.proofs.Common.{ℕ, ◌⊎◌, Bool, true, false, List, [], ◌∷◌, ◌++◌, take, codes, inl, inr, refl, sym, ◌∙◌, subst, append-nil}
use Rattle.std.proofs.lemmas.Bool.{or_from}
use Rattle.bspl_types.specs.declared.expanded.Expanded.{Expanded}
use Rattle.enactment_model.specs.Liveness.{LiveProtocol}
use Rattle.enactment_model.specs.Safety.{SafeProtocol}
use Rattle.refutation_log.specs.declared.refutation.Kind.{Kind}
use Rattle.refutation_log.specs.declared.refutation.Kind.TheVariants as kinds
use Rattle.refutation_log.specs.declared.refutation.Log.{Log}
use Rattle.report.specs.VerdictText.{liveness_evidence, liveness_text, log_part, protocol_line, safety_evidence, safety_text, verdict_text}
use Rattle.verdict.specs.declared.outcome.Liveness.{Liveness as LivenessVerdict}
use Rattle.verdict.specs.declared.outcome.Liveness.TheVariants as liveness
use Rattle.verdict.specs.declared.outcome.Safety.{Safety as SafetyVerdict}
use Rattle.verdict.specs.declared.outcome.Safety.TheVariants.{Safe, Undecided, Unsafe}
use Rattle.verdict.specs.declared.outcome.Verdicts.{Verdicts}
use Rattle.verdict.specs.Right.{IsRight}
use Rattle.verdict.specs.RightLiveness.{IsRightLiveness}
use Rattle.verdict.specs.Verdicts.{AreRightAnswers}
use Rattle.verdict_commands.specs.VerifyAnswer.{verify_rules}
use Rattle.bspl_tool.proofs.ClaimsNothing.{IsBlock, IsBlockWithout, IsField, block_joined, joined_without, liveness_lines, message_lines, message_lines_whole, no_lines, no_liveness, no_safety, safety_lines, without_message}
use Rattle.bspl_tool.proofs.CommandLaws.{CommandLaws, IsHonest}
use Rattle.bspl_tool.proofs.EvidenceLines.{log_is_block, run_is_block}
use Rattle.bspl_tool.proofs.FieldBytes.{fields_are_block}
use Rattle.bspl_tool.proofs.NameBytes.{name_has_no_lf}
use Rattle.bspl_tool.proofs.Unbroken.{has_lf}
use Rattle.bspl_tool.proofs.VerdictLines.{liveness_line_alone, liveness_line_claim, liveness_line_of_none, parts_are_honest, safety_line_alone, safety_line_claim, safety_line_of_none}

-- the line of the protocol
pub protocol_is_block : (x : Expanded) → IsBlock (protocol_line x)
protocol_is_block x = fields_are_block (codes "protocol" ∷ x.name ∷ []) (or_from (has_lf x.name) false (name_has_no_lf x.name x.shape.named) refl) refl

-- the log, or nothing
log_part_is_block : (kind : Kind) (brief : Bool) (log : Log) → IsBlock (log_part kind brief log)
log_part_is_block kind true log = no_lines
log_part_is_block kind false log = log_is_block kind log

-- the evidence of an answer on safety, and on liveness
safety_evidence_is_block : (brief : Bool) (x : Expanded) (s : SafetyVerdict) → IsBlock (safety_evidence x brief s)
safety_evidence_is_block brief x (Safe log) = log_part_is_block kinds.Safety brief log
safety_evidence_is_block brief x (Unsafe run param first second) = run_is_block x run
safety_evidence_is_block brief x (Undecided log) = log_part_is_block kinds.Safety brief log

liveness_evidence_is_block : (brief : Bool) (x : Expanded) (l : LivenessVerdict) → IsBlock (liveness_evidence x brief l)
liveness_evidence_is_block brief x (liveness.Live log) = log_part_is_block kinds.Liveness brief log
liveness_evidence_is_block brief x (liveness.NotLive run param) = run_is_block x run
liveness_evidence_is_block brief x (liveness.Undecided log) = log_part_is_block kinds.Liveness brief log

-- an answer on safety claims nothing, or it claims safety, which is true
safety_claim : (brief : Bool) (budget : ℕ) (x : Expanded) (s : SafetyVerdict) → IsRight x budget s → SafeProtocol x ⊎ IsBlock (safety_text x brief s)
safety_claim brief budget x s right =
    elim (safety_line_claim budget x s right) [
      | inl safe ↦ inl safe
      | inr block ↦ inr (block_joined block (safety_evidence_is_block brief x s))
    ]

-- it claims no liveness
safety_alone : (brief : Bool) (x : Expanded) (s : SafetyVerdict) → IsBlockWithout liveness_lines (safety_text x brief s)
safety_alone brief x s = joined_without liveness_lines refl (safety_line_alone x s) (no_liveness (safety_evidence_is_block brief x s))

-- and says nothing of messages
safety_of_none : (brief : Bool) (x : Expanded) (s : SafetyVerdict) (name : List ℕ) → IsField name → IsBlockWithout (message_lines name) (safety_text x brief s)
safety_of_none brief x s name field = joined_without (message_lines name) (message_lines_whole name field) (safety_line_of_none x s name field) (without_message (safety_evidence_is_block brief x s) name field)

-- so it is with an answer on liveness
liveness_claim : (brief : Bool) (budget : ℕ) (x : Expanded) (l : LivenessVerdict) → IsRightLiveness x budget l → LiveProtocol x ⊎ IsBlock (liveness_text x brief l)
liveness_claim brief budget x l right =
    elim (liveness_line_claim budget x l right) [
      | inl live ↦ inl live
      | inr block ↦ inr (block_joined block (liveness_evidence_is_block brief x l))
    ]

-- it claims no safety
liveness_alone : (brief : Bool) (x : Expanded) (l : LivenessVerdict) → IsBlockWithout safety_lines (liveness_text x brief l)
liveness_alone brief x l = joined_without safety_lines refl (liveness_line_alone x l) (no_safety (liveness_evidence_is_block brief x l))

-- and says nothing of messages
liveness_of_none : (brief : Bool) (x : Expanded) (l : LivenessVerdict) (name : List ℕ) → IsField name → IsBlockWithout (message_lines name) (liveness_text x brief l)
liveness_of_none brief x l name field = joined_without (message_lines name) (message_lines_whole name field) (liveness_line_of_none x l name field) (without_message (liveness_evidence_is_block brief x l) name field)

-- each prefix of the text of right verdicts, and lines that claim nothing, claims only what is true
pub verdict_is_honest : (brief : Bool) (budget : ℕ) (x : Expanded) (v : Verdicts) (more : List ℕ) (n : ℕ) → AreRightAnswers x budget v → IsBlock more → IsHonest x (take n (verdict_text x v brief ++ more))
verdict_is_honest brief budget x v more n right block =
    parts_are_honest x (protocol_line x) (safety_text x brief v.safety) (liveness_text x brief v.liveness) more n (protocol_is_block x)
    (safety_claim brief budget x v.safety right.safety) (safety_alone brief x v.safety) (liveness_claim brief budget x v.liveness right.liveness) (liveness_alone brief x v.liveness) block
    (safety_of_none brief x v.safety) (liveness_of_none brief x v.liveness)

-- verdicts claim only what is true, and no protocol is refused
pub verify_laws : {Once : Type 0} (brief : Bool) (budget : ℕ) → CommandLaws Once (verify_rules brief budget)
verify_laws brief budget = record {
  honest = λ x part out status n given.
      subst (λ text. IsHonest x (take n text)) (append-nil (verdict_text x given.verdicts brief) ∙ sym given.answer.text) (verdict_is_honest brief budget x given.verdicts [] n given.answer.right no_lines);
  names = λ x part r refused. absurd refused;
  distinct = λ once x part out status r admitted answer refused. refused;
  one_refusal = λ once x part r s admitted one other. absurd one;
  one_answer = λ once x part out out' status status' admitted determined one other. absurd determined;
}
