-- One step more is one entry more.
use Rattle.refutation_log.proofs.LogLemmas.{log_left, on_ok}
use Rattle.refutation_log.proofs.EntryLemmas.{entries_push}
use Rattle.refutation_log.proofs.refutation.Log.push.Goals as goal

pub returns-clause-entries : goal.returns-clause-entries
returns-clause-entries c =
    let log = c.args.self.now in
    on_ok c.push.result _ _ (λ e. rw e (entries_push 0 log.steps log.removals c.args.step (log_left log))) c.push.ensures.ok
