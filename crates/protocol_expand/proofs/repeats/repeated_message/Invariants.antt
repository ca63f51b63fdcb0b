-- What has been noted of the messages.
use Rattle.std.proofs.Common.{map, take}
use Rattle.protocol_expand.specs.inner.Flat.{AreNoted}
use Rattle.protocol_expand.proofs.repeats.repeated_message.Given as goal

-- the names so far are apart
abbrev pub invariant-loop-schema : goal.invariant-loop-schema
invariant-loop-schema l = AreNoted (map (λ s. s.name) (take l.schema-index l.messages)) l.names
