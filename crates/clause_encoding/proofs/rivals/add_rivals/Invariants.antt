-- What the loop over the producers leaves to append.
use Rattle.std.proofs.Common.{◌≡◌, ◌++◌, drop}
use Rattle.clause_encoding.specs.Rivals.{rivals_among}
use Rattle.clause_encoding.proofs.rivals.add_rivals.Given as goal

-- with the rivals among the producers that are left, the list is as it shall be
abbrev pub invariant-loop-i : goal.invariant-loop-i
invariant-loop-i l = l.rivals ++ rivals_among l.param (drop l.i l.producers) ≡ l.initial.rivals ++ rivals_among l.param l.producers
