-- Which names were found.
use Rattle.std.proofs.Common.{◌≡◌, map, take}
use Rattle.protocol_names.specs.Names.{protocol_words, texts}
use Rattle.answer_words.proofs.names.protocol_names.Given as goal

-- those of the protocols so far
abbrev pub invariant-loop-protocol : goal.invariant-loop-protocol
invariant-loop-protocol l =
    map (λ name. name.now) l.names ≡ texts (protocol_words (take l.protocol-index l.protocols))
