-- What the crates below answer once, the tool does.
use Rattle.bspl_tool.proofs.LineTasks.{line_has_task}
use Rattle.bspl_tool.proofs.Distinct.{OneEach, answer_law, refusal_law, rejection_law, usage_law}
use Rattle.bspl_tool.proofs.laws.answers_are_distinct.Goals as goal

pub returns : goal.returns
returns c =
    let each : OneEach = record {
      line = c.one_line.ensures;
      reading = record {
        declaration = c.texts_are_judged_once.ensures.declaration;
        refusal = c.texts_are_judged_once.ensures.refusal;
        exclusive = c.texts_are_judged_once.ensures.exclusive;
      };
      evidence = record {
        printing = c.prints_once.ensures;
        check = record {
          logs = c.reads_once.ensures.logs;
          refusals = c.reads_once.ensures.refusals;
          exclusive = c.reads_once.ensures.exclusive;
          failure = c.log_fails_once.ensures.failure;
          accepted = c.log_fails_once.ensures.accepted;
        };
        replay = record {
          runs = c.reads_once-2.ensures.runs;
          refusals = c.reads_once-2.ensures.refusals;
          exclusive = c.reads_once-2.ensures.exclusive;
          reports = c.replay_is_once.ensures;
        };
        agents = record {
          refusals = c.reads_once-3.ensures.refusal;
          exclusive = c.reads_once-3.ensures.exclusive;
        };
        dead = record {
          logs = c.dead_texts_read_once.ensures.logs;
          refusals = c.dead_texts_read_once.ensures.refusals;
          exclusive = c.dead_texts_read_once.ensures.exclusive;
          failure = c.dead_log_fails_once.ensures.failure;
          accepted = c.dead_log_fails_once.ensures.accepted;
        };
        audit = record {
          refusals = c.reads_once-4.ensures.refusals;
          exclusive = c.reads_once-4.ensures.exclusive;
        };
        serve = c.serve_answers_once.ensures;
      };
    } in record { tasks = λ args is. line_has_task args is.0 is.1; usage = usage_law; rejection = rejection_law each; refused = refusal_law each; answer = answer_law each }
