-- The laws of `serve`.
use Rattle.std.proofs.Common.{◌≡◌, ℕ, false, List, [], ◌∷◌, ◌++◌, refl, sym, ap, ◌∙◌, subst}
use Rattle.bspl_types.specs.declared.expanded.Expanded.{Expanded}
use Rattle.kept_lines.specs.Answers.{AnswersLines}
use Rattle.list_base.specs.Lines.{Line, lines_of}
use Rattle.local_store.specs.declared.receipt.Receipt.TheVariants.{Fresh, Repeat, Differs}
use Rattle.local_store.specs.State.{StoreState}
use Rattle.role_knowledge.specs.declared.block.Block.TheVariants.{Missing, Bound}
use Rattle.role_server.specs.Served.{ServesLine, first_store}
use Rattle.serde_json.specs.Written.{compact_text}
use Rattle.wire_form.specs.declared.reply.Reply.{Reply}
use Rattle.wire_form.specs.declared.reply.Reply.TheVariants.{Blocked, Received, Refused, Sent}
use Rattle.wire_form.specs.Reply.{reply_data, reply_text}
use Rattle.agent_commands.specs.ServeAnswer.{OneServeAnswer, serve_rules}
use Rattle.bspl_tool.proofs.ClaimsNothing.{IsBlock, block_joined, claims, closed, line_claims_nothing, no_lines}
use Rattle.bspl_tool.proofs.CommandLaws.{CommandLaws, honest_nothing}
use Rattle.bspl_tool.proofs.JsonLines.{json_has_no_lf}
use Rattle.bspl_tool.proofs.RejectedNames.{HasNames}

-- a reply begins with a brace, and so does not claim anything
reply_is_no_claim : (x : Expanded) (reply : Reply) → claims (reply_text x reply) ≡ false
reply_is_no_claim x (Refused refusal) = refl
reply_is_no_claim x (Received Fresh) = refl
reply_is_no_claim x (Received Repeat) = refl
reply_is_no_claim x (Received (Differs param kept arrived)) = refl
reply_is_no_claim x (Sent m) = refl
reply_is_no_claim x (Blocked (Missing param)) = refl
reply_is_no_claim x (Blocked (Bound param kept)) = refl

-- it is one line
reply_is_block : (x : Expanded) (reply : Reply) → IsBlock (reply_text x reply)
reply_is_block x reply =
    let body = compact_text (reply_data x reply) in
    record { nothing = line_claims_nothing body (json_has_no_lf (reply_data x reply)) (reply_is_no_claim x reply); whole = closed body refl }

-- so no replies claim something of the protocol
replies_are_block : (lines : List Line) (s : StoreState) (out acts : List ℕ) (end : StoreState) → AnswersLines ServesLine s lines out acts end → IsBlock out
replies_are_block [] s out acts end none = subst IsBlock (sym none.0) no_lines
replies_are_block (line ∷ lines) s out acts end answers =
    let first = answers.3 in
    let text = first.written ∙ ap (λ (reply : List ℕ). reply ++ answers.1) first.answer.text_is in
    subst IsBlock (sym text) (block_joined (reply_is_block s.protocol first.answer.reply) (replies_are_block lines answers.0 answers.1 answers.2 end answers.4))

-- the laws of the command
pub serve_laws : CommandLaws OneServeAnswer serve_rules
serve_laws = record {
  honest = λ x part out status n answer. honest_nothing x out n (replies_are_block (lines_of answer.lines) (first_store x answer.role) out answer.replies.1.0 answer.replies.0 answer.replies.1.1).nothing;
  names = λ x part r refused. subst HasNames (sym refused.rejection_is) (record { first = tt; second = tt });
  distinct = λ once x part out status r admitted answer refused. refused.none answer.role answer.lines answer.opens;
  one_refusal = λ once x part r s admitted one other. one.rejection_is ∙ sym other.rejection_is;
  one_answer = λ once x part out out' status status' admitted determined one other. once x part out out' status status' admitted one other;
}
