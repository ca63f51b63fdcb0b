-- What the loop over the messages has collected.
use Rattle.std.proofs.Common.{◌≡◌}
use Rattle.std.specs.List.{flat_map, range_with_len}
use Rattle.clause_encoding.specs.inner.Chosen.{carriers_of}
use Rattle.clause_encoding.proofs.carrier_kinds.carriers.Given as goal

-- the kinds of the messages before this one
abbrev pub invariant-loop-m : goal.invariant-loop-m
invariant-loop-m l = l.kinds ≡ flat_map (carriers_of l.x l.role l.param) (range_with_len 0 l.m)
