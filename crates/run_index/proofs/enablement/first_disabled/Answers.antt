-- The first failure is the first emission that is not enabled.
use Rattle.std.proofs.lemmas.Result.{IfOk-weaker}
use Rattle.run_index.proofs.EmissionLemmas.{disabled_from}
use Rattle.run_index.proofs.enablement.first_disabled.Goals as goal

pub returns : goal.returns
returns c = IfOk-weaker c.first_failure.result _ _ (disabled_from c.args.x.now c.args.index.now) c.first_failure.ensures
