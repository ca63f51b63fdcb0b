-- What the loop over the parameters has collected.
use Rattle.std.proofs.Common.{◌≡◌}
use Rattle.std.specs.List.{flat_map, range_with_len}
use Rattle.clause_encoding.specs.Rivals.{producers_of, rivals_among}
use Rattle.clause_encoding.proofs.rivals.rivals_of.Given as goal

-- the rivals of the parameters before this one
abbrev pub invariant-loop-param : goal.invariant-loop-param
invariant-loop-param l = l.rivals ≡ flat_map (λ p. rivals_among p (producers_of l.x p)) (range_with_len 0 l.param)
