-- What the loop over the parameters has collected.
use Rattle.std.proofs.Common.{◌≡◌, map, take}
use Rattle.std.specs.List.{filter}
use Rattle.clause_encoding.specs.Carriers.{is_in}
use Rattle.clause_encoding.proofs.parameters.in_parameters.Given as goal

-- those of the parameters before the index that are adorned `in`
abbrev pub invariant-loop-c : goal.invariant-loop-c
invariant-loop-c l = l.params ≡ map (λ c. c.param) (filter (λ c. is_in c.adornment) (take l.c-index l.c-items))
