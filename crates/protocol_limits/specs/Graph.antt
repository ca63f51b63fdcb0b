-- Which protocols of a document refer to which, by their numbers.
use Rattle.std.specs.Prelude.{ℕ, List, map, Option, None}
use Rattle.std.specs.List.{filter_map, position}
use Rattle.std.specs.Str.{bytes_eq}
use Rattle.bspl_parser.specs.declared.document.Declaration.{Declaration}
use Rattle.bspl_parser.specs.declared.document.Item.{Item}
use Rattle.bspl_parser.specs.declared.document.Item.TheVariants.{Message, Reference}

-- the number of the first protocol of the name
abbrev pub protocol_number : List Declaration → List ℕ → Option ℕ
protocol_number protocols name = position (λ p. bytes_eq p.name.text name) protocols

-- the number of the protocol that an item refers to: none for a message, or if no protocol has the
-- name
abbrev pub target_of : List Declaration → Item → Option ℕ
target_of protocols (Message m) = None
target_of protocols (Reference r) = protocol_number protocols r.protocol.text

-- the numbers of the protocols that a protocol refers to, in the order of its body
abbrev pub references_of : List Declaration → Declaration → List ℕ
references_of protocols p = filter_map (target_of protocols) p.body

-- for each protocol, by its number, those that it refers to
unfoldable pub graph_of : List Declaration → List (List ℕ)
graph_of protocols = map (references_of protocols) protocols
