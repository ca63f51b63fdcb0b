-- What has been copied.
use Rattle.std.proofs.Common.{◌≡◌, take}
use Rattle.protocol_paths.proofs.copies.copied_formals.Given as goal

-- the parameters so far
abbrev pub invariant-loop-formal : goal.invariant-loop-formal
invariant-loop-formal l = l.copies ≡ take l.formal-index l.formals
