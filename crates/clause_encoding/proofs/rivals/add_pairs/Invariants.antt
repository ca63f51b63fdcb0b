-- What the loop over the other producers has appended.
use Rattle.std.proofs.Common.{◌≡◌, ◌++◌, take}
use Rattle.clause_encoding.specs.inner.Chosen.{rivals_with}
use Rattle.clause_encoding.proofs.rivals.add_pairs.Given as goal

-- the message with each of those before the index
abbrev pub invariant-loop-second : goal.invariant-loop-second
invariant-loop-second l = l.rivals ≡ l.initial.rivals ++ rivals_with l.param l.first (take l.second-index l.others)
