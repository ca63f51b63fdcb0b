-- The lemmas on first indices.
use Rattle.std.proofs.Common.{refl}
use Rattle.protocol_names.proofs.Lookups.{no_protocol, protocol_at}
use Rattle.protocol_names.specs.Names.{protocol_words, texts}
use Rattle.protocol_names.proofs.laws.names_find_protocols.Goals as goal

pub returns : goal.returns
returns c = record {
  found = λ protocols name index is. protocol_at protocols (texts (protocol_words protocols)) name index refl is;
  missing = λ protocols name is. no_protocol protocols (texts (protocol_words protocols)) name refl is;
}
