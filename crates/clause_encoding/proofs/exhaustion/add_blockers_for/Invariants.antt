-- What the loop over the kinds has appended.
use Rattle.std.specs.Prelude.{◌≡◌, ◌++◌, map, take}
use Rattle.clause_encoding.specs.Variables.{occurs}
use Rattle.clause_encoding.proofs.exhaustion.add_blockers_for.Given as goal

-- the literals of the kinds before the index
abbrev pub invariant-loop-carrier : goal.invariant-loop-carrier
invariant-loop-carrier l = l.lits ≡ l.initial.lits ++ map occurs (take l.carrier-index l.carrier-items)
