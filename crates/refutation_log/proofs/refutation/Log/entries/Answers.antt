-- The entries tell the steps.
use Rattle.refutation_log.proofs.LogLemmas.{log_steps}
use Rattle.refutation_log.proofs.refutation.Log.entries.Goals as goal

pub returns-clause-steps : goal.returns-clause-steps
returns-clause-steps c = rw (c.as_slice.ensures, c.as_slice-2.ensures) (log_steps c.args.self.now)
