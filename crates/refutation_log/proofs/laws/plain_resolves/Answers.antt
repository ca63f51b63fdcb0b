-- The law by either rule of removals.
use Rattle.refutation_log.specs.Ledger.{IsLive, IsContaining}
use Rattle.refutation_log.proofs.RunLemmas.{plain_log}
use Rattle.refutation_log.proofs.laws.plain_resolves.Goals as goal

pub returns-clause-live : goal.returns-clause-live
returns-clause-live c = plain_log IsLive

pub returns-clause-containing : goal.returns-clause-containing
returns-clause-containing c = plain_log IsContaining
