-- The one layout in which a document is printed: an indented line for each part of a protocol.
use Rattle.std.specs.Prelude.{ℕ, List, [], ◌∷◌, ◌++◌, Option, Some, None, codes}
use Rattle.std.specs.List.{flat_map, join_by}
use Rattle.bspl_parser.specs.declared.document.Formal.{Formal}
use Rattle.bspl_parser.specs.declared.document.Schema.{Schema}
use Rattle.bspl_parser.specs.declared.document.Reference.{Reference}
use Rattle.bspl_parser.specs.declared.document.Item.{Item}
use Rattle.bspl_parser.specs.declared.document.Item.TheVariants as item
use Rattle.bspl_parser.specs.declared.document.Declaration.{Declaration}
use Rattle.bspl_parser.specs.declared.document.Document.{Document}
use Rattle.bspl_parser.specs.declared.word.Word.{Word}
use Rattle.bspl_parser.specs.Grammar.{symbol_of}
use Rattle.bspl_parser.specs.Symbol.{spelling}

-- each with a comma and a space before it
abbrev pub comma_prefixed : {X : Type 0} → (X → List ℕ) → List X → List ℕ
comma_prefixed text xs = flat_map (λ x. codes ", " ++ text x) xs

-- between each two a comma and a space
abbrev pub comma_separated : {X : Type 0} → (X → List ℕ) → List X → List ℕ
comma_separated text xs = join_by text (codes ", ") xs

-- a line within a protocol, indented by two spaces
abbrev pub indented_line : List ℕ → List ℕ
indented_line text = codes "  " ++ text ++ codes "\n"

-- a name: p
abbrev pub printed_word : Word → List ℕ
printed_word w = w.text

-- the word `key`, if the document has it
abbrev pub printed_key : Option ℕ → List ℕ
printed_key None = []
printed_key (Some offset) = codes " key"

-- a parameter: out p key
abbrev pub printed_formal : Formal → List ℕ
printed_formal f = spelling (symbol_of f.adorn) ++ codes " " ++ f.name.text ++ printed_key f.key

-- a message: A -> B: m[out p key, nil q]
abbrev pub printed_message : Schema → List ℕ
printed_message m =
    m.sender.text ++ codes " -> " ++ m.receiver.text ++ codes ": " ++
    m.name.text ++ codes "[" ++ comma_separated printed_formal m.params ++ codes "]"

-- a reference: P(A, B, in p, out q)
abbrev pub printed_reference : Reference → List ℕ
printed_reference r =
    r.protocol.text ++ codes "(" ++
    comma_separated printed_word r.roles ++ comma_prefixed printed_formal r.params ++ codes ")"

-- a message or a reference, on a line of its own
abbrev pub item_line : Item → List ℕ
item_line (item.Message m) = indented_line (printed_message m)
item_line (item.Reference r) = indented_line (printed_reference r)

-- a line, if there are private parameters: private a, b
abbrev pub private_line : List Word → List ℕ
private_line [] = []
private_line (w ∷ ws) = indented_line (codes "private " ++ comma_separated printed_word (w ∷ ws))

-- the protocol's name, and between braces its lines
unfoldable pub printed_declaration : Declaration → List ℕ
printed_declaration d =
    d.name.text ++ codes " {\n" ++
    indented_line (codes "roles " ++ comma_separated printed_word d.roles) ++
    indented_line (codes "parameters " ++ comma_separated printed_formal d.public) ++
    private_line d.private ++
    flat_map item_line d.body ++
    codes "}\n"

-- the protocols, and an empty line between each two
abbrev pub printed : Document → List ℕ
printed d = join_by printed_declaration (codes "\n") d.protocols
