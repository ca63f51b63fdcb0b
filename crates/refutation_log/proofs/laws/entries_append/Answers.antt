-- The law by either rule of removals.
use Rattle.refutation_log.specs.Ledger.{IsLive, IsContaining}
use Rattle.refutation_log.proofs.RunLemmas.{runs_append}
use Rattle.refutation_log.proofs.laws.entries_append.Goals as goal

pub returns-clause-live : goal.returns-clause-live
returns-clause-live c = runs_append IsLive

pub returns-clause-containing : goal.returns-clause-containing
returns-clause-containing c = runs_append IsContaining
