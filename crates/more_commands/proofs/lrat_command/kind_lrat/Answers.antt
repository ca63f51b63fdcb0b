-- The answer is that on the log that was read.
use Rattle.std.proofs.Common.{rules}
use Rattle.more_commands.proofs.lrat_command.kind_lrat.Goals as goal

pub returns-clause-ok : goal.returns-clause-ok
returns-clause-ok c = record {
  kind = c.in_ok-kind.kind;
  log = c.in_ok-kind.log;
  read = search rules;
  answer = c.in_ok-log_answer.ensures;
}
