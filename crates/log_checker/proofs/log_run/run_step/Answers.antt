-- The variables of one clause more exist.
use Rattle.log_checker.proofs.RunningLog.{exist_more}
use Rattle.log_checker.proofs.log_run.run_step.Goals as goal

pub returns-in_ok-push-in-Ok-clause-clear : goal.returns-in_ok-push-in-Ok-clause-clear
returns-in_ok-push-in-Ok-clause-clear c =
    let table = c.args.table.now in record {
      exist = rw (c.in_ok-push-in-Ok.ensures.formula, c.in_ok-push-in-Ok.ensures.derived, c.in-Ok.ensures.vars)
          (exist_more c.args.marks.now.vars table.formula table.derived c.in-Ok.clause c.requires.clear.exist c.in-Ok.ensures.exist);
      empty = c.in-Ok.ensures.empty;
    }
