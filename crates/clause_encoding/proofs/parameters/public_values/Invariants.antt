-- What the loop over the public parameters has collected.
use Rattle.std.proofs.Common.{◌≡◌, map, take}
use Rattle.std.specs.List.{enumerate_from, filter}
use Rattle.bspl_types.specs.Shape.{is_public_value}
use Rattle.clause_encoding.proofs.parameters.public_values.Given as goal

-- those before this one that are adorned `in` or `out`
abbrev pub invariant-loop-param : goal.invariant-loop-param
invariant-loop-param l = l.params ≡ map (λ (p, _). p) (filter (λ (_, info). is_public_value info.adornment) (enumerate_from 0 (take l.param l.x.params)))
