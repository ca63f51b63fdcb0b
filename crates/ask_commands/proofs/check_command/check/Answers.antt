-- The answer is that of the check, once the log is read.
use Rattle.std.proofs.Common.{rules, refl, inl, inr}
use Rattle.ask_commands.proofs.check_command.check.Goals as goal

pub returns-in-Ok-clause-ok : goal.returns-in-Ok-clause-ok
returns-in-Ok-clause-ok c = record {
  spelling = c.in_ok-read.read.spelling.now;
  question = c.in_ok-read.read.question;
  log = c.in_ok-read.read.log;
  read = rw c.expanded.ensures.same at c.in_ok-read.ensures.ok;
  answer = inl (record {
    accepts = c.in-Ok.ensures.ok;
    impossible = c.in-Ok.ensures.impossible;
    text = c.in_ok-accepted_text-in-Ok.ensures;
    done = refl;
  });
}

pub returns : goal.returns
returns c = record {
  ok = record {
    spelling = c.in_ok-read.read.spelling.now;
    question = c.in_ok-read.read.question;
    log = c.in_ok-read.read.log;
    read = rw c.expanded.ensures.same at c.in_ok-read.ensures.ok;
    answer = inr (record {
      reject = c.in-Err.reject;
      fails = (c.in-Err.ensures.rejects (search rules) c.in-Err.reject).0 refl;
      text = c.in_ok-reject_line-in-Err.ensures;
      refuted = refl;
    });
  };
  refused = tt;
}
