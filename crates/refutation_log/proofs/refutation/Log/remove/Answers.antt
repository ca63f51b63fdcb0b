-- One removal more is one entry more.
use Rattle.std.proofs.Common.{◌≡◌, length, rules}
use Rattle.refutation_log.proofs.LogLemmas.{log_left, on_ok}
use Rattle.refutation_log.proofs.EntryLemmas.{entries_remove}
use Rattle.refutation_log.proofs.refutation.Log.remove.Goals as goal

pub returns-clause-entries : goal.returns-clause-entries
returns-clause-entries c =
    let log = c.args.self.now in
    let at : c.in-Ok.after ≡ length log.steps = search rules in
    on_ok c.push.result _ _ (λ e. rw e (entries_remove 0 log.steps log.removals (record { after = c.in-Ok.after; clauses = c.args.clauses }) at (log_left log))) c.push.ensures.ok
