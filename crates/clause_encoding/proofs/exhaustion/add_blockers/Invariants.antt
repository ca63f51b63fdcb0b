-- What the loop over the parameters has appended.
use Rattle.std.specs.Prelude.{◌≡◌, ◌++◌, map, take}
use Rattle.std.specs.List.{flat_map}
use Rattle.clause_encoding.specs.Carriers.{sender_carriers}
use Rattle.clause_encoding.specs.Variables.{occurs}
use Rattle.clause_encoding.proofs.exhaustion.add_blockers.Given as goal

-- the literals of the parameters before the index
abbrev pub invariant-loop-param : goal.invariant-loop-param
invariant-loop-param l = l.lits ≡ l.initial.lits ++ map occurs (flat_map (sender_carriers l.x l.m) (take l.param-index l.param-items))
