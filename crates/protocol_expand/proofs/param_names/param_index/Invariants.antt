-- The first index is not passed.
use Rattle.std.proofs.Common.{◌≡◌, ℕ, ◌<◌, ◌≤◌, ◌-◌, Some, length}
use Rattle.protocol_expand.specs.FlatExpansion.{param_index}
use Rattle.protocol_expand.proofs.param_names.param_index.Given as goal

-- there is a parameter at the index, and none before it has the name
abbrev pub invariant-loop-index : goal.invariant-loop-index
invariant-loop-index l = (l.index < length l.params) × ((first : ℕ) → param_index l.params l.name ≡ Some first → l.index ≤ first)

abbrev pub decreases-loop-index : goal.decreases-loop-index
decreases-loop-index l = length l.params - l.index
