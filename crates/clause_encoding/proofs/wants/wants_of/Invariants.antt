-- What the loop over the messages has collected.
use Rattle.std.proofs.Common.{◌≡◌}
use Rattle.std.specs.List.{flat_map, range_with_len}
use Rattle.clause_encoding.specs.Rest.{wants_by}
use Rattle.clause_encoding.proofs.wants.wants_of.Given as goal

-- those of the messages before this one
abbrev pub invariant-loop-m : goal.invariant-loop-m
invariant-loop-m l = l.wants ≡ flat_map (wants_by l.x) (range_with_len 0 l.m)
