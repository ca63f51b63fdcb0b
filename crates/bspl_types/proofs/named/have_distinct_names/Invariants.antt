-- What the loop over the items has found.
use Rattle.std.proofs.Common.{◌≢◌, take}
use Rattle.std.specs.List.{AllPairs}
use Rattle.bspl_types.proofs.named.have_distinct_names.Given as goal

-- the items before the index have distinct names
abbrev pub invariant-loop-index : goal.invariant-loop-index
invariant-loop-index g l = AllPairs (λ x y. g.T.Named.name x ≢ g.T.Named.name y) (take l.index l.items)
