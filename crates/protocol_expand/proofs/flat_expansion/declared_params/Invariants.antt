-- What has been made of the declared parameters.
use Rattle.std.proofs.Common.{◌≡◌, ◌++◌, map, take}
use Rattle.protocol_expand.specs.FlatExpansion.{public_param, private_param}
use Rattle.protocol_expand.proofs.flat_expansion.declared_params.Given as goal

-- the public parameters so far
abbrev pub invariant-loop-f : goal.invariant-loop-f
invariant-loop-f l = l.params ≡ map public_param (take l.f-index l.public)

-- all public parameters, and the private ones so far
abbrev pub invariant-loop-w : goal.invariant-loop-w
invariant-loop-w l = l.params ≡ map public_param l.public ++ map private_param (take l.w-index l.private)
