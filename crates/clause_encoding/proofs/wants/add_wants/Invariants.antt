-- What the loop over the parameters has appended.
use Rattle.std.proofs.Common.{◌≡◌, ◌++◌, map, take}
use Rattle.clause_encoding.proofs.LackingLemmas.{want}
use Rattle.clause_encoding.proofs.wants.add_wants.Given as goal

-- the message with each of those before the index
abbrev pub invariant-loop-param : goal.invariant-loop-param
invariant-loop-param l = l.wants ≡ l.initial.wants ++ map (want l.message) (take l.param-index l.param-items)
