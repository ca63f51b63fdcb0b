-- The verdicts are right within their budget, and their words come after their text.
use Rattle.std.proofs.Common.{◌≡◌, ◌++◌}
use Rattle.std.proofs.lemmas.Result.{IfOk-weaker}
use Rattle.program_frame.specs.declared.reply.Reply.{Reply}
use Rattle.tool_input.specs.declared.status.Status.{Status}
use Rattle.more_commands.specs.ExplainAnswer.{IsExplainedAnswer}
use Rattle.more_commands.proofs.WordLemmas.{words_behind}
use Rattle.more_commands.proofs.explain_command.explained_verdicts.Goals as goal

pub verdict_words-requires : goal.verdict_words-requires
verdict_words-requires c = (c.args.conflicts, c.in_ok-verdicts.ensures.answer.right)

pub returns : goal.returns
returns c =
    let a = c.args in
    let found = c.in_ok-verdicts.field-0 in
    let right = c.in_ok-verdicts.ensures in
    IfOk-weaker c.with_words.result (λ (r : Reply Status). (r.text ≡ found.reply.text ++ c.as_slice.result.now) × (r.status ≡ found.reply.status)) (λ (r : Reply Status). IsExplainedAnswer a.brief a.conflicts a.protocol.now r.text r.status)
    (λ r is. words_behind a.brief a.conflicts a.protocol.now found.verdicts found.reply r c.in_ok-words.words right.answer right.ends c.in_ok-words.ensures (rw c.as_slice.ensures at is.0) is.1)
    c.with_words.ensures
