-- What the loop over the kinds has collected.
use Rattle.std.proofs.Common.{◌≡◌, take}
use Rattle.std.specs.Prelude.{not, ◌==◌}
use Rattle.std.specs.List.{filter}
use Rattle.clause_encoding.specs.Variables.{sent}
use Rattle.clause_encoding.proofs.carrier_kinds.sender_carriers.Given as goal

-- the kinds before the index, other than the emission
abbrev pub invariant-loop-kind : goal.invariant-loop-kind
invariant-loop-kind l = l.others ≡ filter (λ kind. not (kind == sent l.m)) (take l.kind-index l.kind-items)
