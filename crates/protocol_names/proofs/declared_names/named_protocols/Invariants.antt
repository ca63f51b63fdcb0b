-- What has been noted of the protocols.
use Rattle.std.proofs.Common.{take}
use Rattle.protocol_names.specs.Names.{protocol_words}
use Rattle.protocol_names.specs.inner.DeclaredNames.{AreDeclared}
use Rattle.protocol_names.proofs.declared_names.named_protocols.Given as goal

-- the names so far
abbrev pub invariant-loop-protocol : goal.invariant-loop-protocol
invariant-loop-protocol l = AreDeclared (protocol_words (take l.protocol-index l.protocols)) l.declared.names l.declared.first
