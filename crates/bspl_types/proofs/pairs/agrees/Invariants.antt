-- What the loop over the keys has found.
use Rattle.std.proofs.Common.{◌≡◌, ℕ, ◌<◌, Some}
use Rattle.std.specs.Prelude.{slice_get}
use Rattle.bspl_types.proofs.pairs.agrees.Given as goal

-- at the indices so far the key has the value of its parameter
abbrev pub invariant-loop-index : goal.invariant-loop-index
invariant-loop-index l = (k : ℕ) → k < l.index → slice_get l.keys k ≡ Some l.c.param → slice_get l.key k ≡ Some l.value
