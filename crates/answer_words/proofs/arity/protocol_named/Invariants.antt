-- No protocol before has the name.
use Rattle.std.proofs.Common.{◌≡◌, drop}
use Rattle.protocol_names.specs.Names.{protocol_of}
use Rattle.answer_words.proofs.arity.protocol_named.Given as goal

-- the first one is that of the protocols that are left
abbrev pub invariant-loop-protocol : goal.invariant-loop-protocol
invariant-loop-protocol l =
    protocol_of (drop l.protocol-index l.protocols) l.name ≡ protocol_of l.protocols l.name
