-- The answer is that on the log that was read.
use Rattle.std.proofs.Common.{◌≡◌}
use Rattle.more_commands.proofs.lrat_command.question_lrat.Goals as goal

pub question_log_answer-requires-clause-about : goal.question_log_answer-requires-clause-about
question_log_answer-requires-clause-about c = rw c.expanded.ensures.same at c.in_ok-read.ensures.about

pub returns-clause-ok : goal.returns-clause-ok
returns-clause-ok c = record {
  spelling = c.in_ok-read.read.spelling.now;
  question = c.in_ok-read.read.question;
  log = c.in_ok-read.read.log;
  read = rw c.expanded.ensures.same at c.in_ok-read.ensures.ok;
  answer = c.in_ok-question_log_answer.ensures;
}
