-- Without a value of the key no key parameter is left to be found.
use Rattle.std.proofs.Common.{drop, sym, ◌∙◌}
use Rattle.local_store.proofs.StepLemmas.{no_key_value}
use Rattle.local_store.proofs.filled_values.key_value.Goals as goal

pub returns-in_default : goal.returns-in_default
returns-in_default c =
    sym (no_key_value (drop c.loop-k.k-index c.args.keys.now) c.loop-k.remaining.now c.args.param c.in_default.ensures.cases) ∙ c.loop-k.invariant
