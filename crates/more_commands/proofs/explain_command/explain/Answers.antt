-- After the answer to another task than `verify` come the words of its status.
use Rattle.std.proofs.Common.{◌++◌, sym, ap, subst, ◌∙◌}
use Rattle.bspl_tool.specs.Task.{task_rules}
use Rattle.tool_input.specs.declared.status.Status.{Status}
use Rattle.more_commands.specs.StatusWords.{status_words}
use Rattle.more_commands.proofs.WordLemmas.{other_answer}
use Rattle.more_commands.proofs.explain_command.explain.Goals as goal

pub returns-in_ok-with_status_words-in_default : goal.returns-in_ok-with_status_words-in_default
returns-in_ok-with_status_words-in_default c =
    let task = c.args.task in
    let given = c.args.given.now in
    let reply = c.in_ok-finish-in_default.field-0 in
    let explained = c.in_ok-with_status_words-in_default.field-0 in
    let said = c.in_ok-with_status_words-in_default.ensures in
    let answer = c.in_ok-answer-in_default.ensures.ok reply.text reply.status c.in_ok-finish-in_default.ensures in
    record {
      ok = other_answer task c.in_default.not-Verify c.args.protocol given reply.text explained.text explained.status (subst (λ (s : Status). (task_rules task).answers c.args.protocol given reply.text s) (sym said.1) answer) (said.0 ∙ ap (λ (s : Status). reply.text ++ status_words task s) (sym said.1));
      refused = tt;
    }
