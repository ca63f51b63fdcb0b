-- The value is among those that remain.
use Rattle.std.proofs.Common.{◌≡◌, drop}
use Rattle.local_store.specs.inner.FilledValues.{key_value}
use Rattle.local_store.proofs.filled_values.key_value.Given as goal

abbrev pub invariant-loop-k : goal.invariant-loop-k
invariant-loop-k l = key_value (drop l.k-index l.keys) l.remaining l.param ≡ key_value l.keys l.key l.param
