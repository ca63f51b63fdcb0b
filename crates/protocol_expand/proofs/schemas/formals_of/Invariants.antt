-- What has been made of the parameters.
use Rattle.std.proofs.Common.{take}
use Rattle.std.specs.List.{AllZip}
use Rattle.protocol_expand.specs.Canonical.{IsFormalOf}
use Rattle.protocol_expand.proofs.schemas.formals_of.Given as goal

-- one for each so far
abbrev pub invariant-loop-c : goal.invariant-loop-c
invariant-loop-c l = AllZip (IsFormalOf l.params) (take l.c-index l.carried) l.formals
