-- The paths from a protocol along references, and the messages at their ends.
use Rattle.std.specs.Prelude.{ℕ, zero, suc, List, [], ◌∷◌, map}
use Rattle.std.specs.List.{enumerate_from, flat_map}
use Rattle.std.specs.Option.{option_map_or}
use Rattle.bspl_parser.specs.declared.document.Declaration.{Declaration}
use Rattle.bspl_parser.specs.declared.document.Item.{Item}
use Rattle.bspl_parser.specs.declared.document.Item.TheVariants.{Message, Reference}
use Rattle.bspl_parser.specs.declared.document.Reference.{Reference as SpecReference}
use Rattle.bspl_parser.specs.declared.document.Schema.{Schema}
use Rattle.bspl_parser.specs.declared.word.Word.{Word}
use Rattle.protocol_names.specs.Names.{protocol_of}

-- a reference on a path: its position in the body, counted from 1, and where it leads
pub record Step : Type 0 where
  pub position : ℕ
  pub reference : SpecReference
  pub target : Declaration

-- the items of a body with their positions
abbrev pub numbered_items : Declaration → List (ℕ × Item)
numbered_items p = enumerate_from 1 p.body

-- the step by an item: none for a message, or if no protocol has the name
abbrev pub steps_at : List Declaration → ℕ × Item → List Step
steps_at protocols (position, Message m) = []
steps_at protocols (position, Reference r) =
    option_map_or (λ q. record { position = position; reference = r; target = q } ∷ [])
    (protocol_of protocols r.protocol.text) []

-- the steps of a protocol, in the order of its body
abbrev pub steps : List Declaration → Declaration → List Step
steps protocols p = flat_map (steps_at protocols) (numbered_items p)

-- the paths of at most `n` references, by their positions, each before its extensions
abbrev pub paths : ℕ → List Declaration → Declaration → List (List Step)
paths zero protocols p = [] ∷ []
paths (suc n) protocols p =
    [] ∷ flat_map (λ s. map (λ path. s ∷ path) (paths n protocols s.target)) (steps protocols p)

-- the protocol at the end of a path
abbrev pub end_of : Declaration → List Step → Declaration
end_of p [] = p
end_of p (s ∷ path) = end_of s.target path

-- the private parameters at the ends of the paths
abbrev pub private_words : ℕ → List Declaration → Declaration → List Word
private_words n protocols p =
    flat_map (λ path. (end_of p path).private) (paths n protocols p)

-- a message at the end of a path through one more reference
abbrev pub through : Step → List Step × Schema → List Step × Schema
through s (path, m) = (s ∷ path, m)

-- a message of a body, or the messages to which a reference leads, each with its path
abbrev pub item_messages : ℕ → List Declaration → ℕ × Item → List (List Step × Schema)
item_messages zero protocols (position, Message m) = ([], m) ∷ []
item_messages zero protocols (position, Reference r) = []
item_messages (suc n) protocols (position, Message m) = ([], m) ∷ []
item_messages (suc n) protocols (position, Reference r) =
    flat_map (λ s. map (through s) (flat_map (item_messages n protocols) (numbered_items s.target)))
    (steps_at protocols (position, Reference r))

-- the messages at the ends of the paths of at most `n` references, by their positions
abbrev pub message_paths : ℕ → List Declaration → Declaration → List (List Step × Schema)
message_paths n protocols p = flat_map (item_messages n protocols) (numbered_items p)
