-- What the loop over the parameters has collected.
use Rattle.std.proofs.Common.{◌≡◌, take}
use Rattle.bspl_types.specs.Shape.{key_indices}
use Rattle.bspl_types.proofs.shape.key_indices.Given as goal

-- the keys among the parameters before the index
abbrev pub invariant-loop-index : goal.invariant-loop-index
invariant-loop-index l = l.keys ≡ key_indices (take l.index l.params)
