-- The first line says what the log is on.
use Rattle.std.proofs.Common.{inl, inr, refl, ℕ, List}
use Rattle.std.proofs.lemmas.Bool.{iff_false}
use Rattle.std.proofs.lemmas.Result.{IfErr-weaker, IfOk-weaker}
use Rattle.ask_commands.specs.CheckAnswer.{IsCheckAskRefused}
use Rattle.evidence_commands.specs.CheckAnswer.{IsCheckRefused}
use Rattle.program_frame.specs.declared.reply.Reply.{Reply}
use Rattle.tool_input.specs.Error.{RejectsFor}
use Rattle.tool_input.specs.declared.status.Status.{Status}
use Rattle.more_commands.specs.LratAnswer.{IsKindLratAnswer, IsLratAnswer, IsLratRefused, IsQuestionLratAnswer}
use Rattle.more_commands.proofs.LratLemmas.{refused_on_kind, refused_on_question}
use Rattle.more_commands.proofs.lrat_command.lrat.Goals as goal

pub returns-then-begins_on_question-clause-ok : goal.returns-then-begins_on_question-clause-ok
returns-then-begins_on_question-clause-ok c =
    let x = c.args.protocol.now in
    let part = c.args.part.now in
    IfOk-weaker c.question_lrat.result (λ (reply : Reply Status). IsQuestionLratAnswer x part reply.text reply.status) (λ (reply : Reply Status). IsLratAnswer x part reply.text reply.status) (λ reply is. inr is) c.question_lrat.ensures.ok

pub returns-then-begins_on_question-clause-refused : goal.returns-then-begins_on_question-clause-refused
returns-then-begins_on_question-clause-refused c =
    let x = c.args.protocol.now in
    let part = c.args.part.now in
    IfErr-weaker c.question_lrat.result (RejectsFor (IsCheckAskRefused x part)) (RejectsFor (IsLratRefused x part)) (refused_on_question x part (c.if-begins_on_question.ensures.0 refl)) c.question_lrat.ensures.refused

pub returns-else-begins_on_question-clause-ok : goal.returns-else-begins_on_question-clause-ok
returns-else-begins_on_question-clause-ok c =
    let x = c.args.protocol.now in
    let part = c.args.part.now in
    IfOk-weaker c.kind_lrat.result (λ (reply : Reply Status). IsKindLratAnswer x part reply.text reply.status) (λ (reply : Reply Status). IsLratAnswer x part reply.text reply.status) (λ reply is. inl is) c.kind_lrat.ensures.ok

pub returns-else-begins_on_question-clause-refused : goal.returns-else-begins_on_question-clause-refused
returns-else-begins_on_question-clause-refused c =
    let x = c.args.protocol.now in
    let part = c.args.part.now in
    IfErr-weaker c.kind_lrat.result (RejectsFor (IsCheckRefused part)) (RejectsFor (IsLratRefused x part)) (refused_on_kind x part (iff_false c.begins_on_question.ensures c.if-begins_on_question.false)) c.kind_lrat.ensures.refused
