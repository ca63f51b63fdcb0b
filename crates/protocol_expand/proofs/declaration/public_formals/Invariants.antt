-- What has been made so far.
use Rattle.std.proofs.Common.{take}
use Rattle.std.specs.List.{AllZip}
use Rattle.protocol_expand.specs.Canonical.{IsPublicOf}
use Rattle.protocol_expand.proofs.declaration.public_formals.Given as goal

-- one for each so far
abbrev pub invariant-loop-p : goal.invariant-loop-p
invariant-loop-p l = AllZip IsPublicOf (take l.p-index l.params) l.formals
