-- What has been noted of the public parameters.
use Rattle.std.proofs.Common.{map, take}
use Rattle.protocol_expand.specs.inner.Flat.{AreNoted}
use Rattle.protocol_expand.proofs.repeats.repeated_public.Given as goal

-- the names so far are apart
abbrev pub invariant-loop-formal : goal.invariant-loop-formal
invariant-loop-formal l = AreNoted (map (λ f. f.name) (take l.formal-index l.public)) l.names
