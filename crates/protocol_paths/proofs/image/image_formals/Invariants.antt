-- What has been made of the parameters.
use Rattle.std.proofs.Common.{take}
use Rattle.std.specs.List.{AllZip}
use Rattle.protocol_paths.specs.Flat.{IsImageFormal}
use Rattle.protocol_paths.specs.inner.ScopeOf.{scope_of}
use Rattle.protocol_paths.proofs.image.image_formals.Given as goal

-- one for each parameter so far
abbrev pub invariant-loop-formal : goal.invariant-loop-formal
invariant-loop-formal l = AllZip (IsImageFormal (scope_of l.scope)) (take l.formal-index l.formals) l.images
