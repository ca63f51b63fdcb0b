-- The grammar: the signs that spell each part of a document, in reading order. Above each
-- definition is its line of the grammar.
use Rattle.std.specs.Prelude.{ℕ, List, [], ◌∷◌, ◌++◌, Option, Some, None}
use Rattle.std.specs.List.{flat_map}
use Rattle.bspl_parser.specs.declared.document.Adorn.{Adorn}
use Rattle.bspl_parser.specs.declared.document.Adorn.TheVariants as adorn
use Rattle.bspl_parser.specs.declared.document.Formal.{Formal}
use Rattle.bspl_parser.specs.declared.document.Schema.{Schema}
use Rattle.bspl_parser.specs.declared.document.Reference.{Reference}
use Rattle.bspl_parser.specs.declared.document.Item.{Item}
use Rattle.bspl_parser.specs.declared.document.Item.TheVariants as item
use Rattle.bspl_parser.specs.declared.document.Declaration.{Declaration}
use Rattle.bspl_parser.specs.declared.document.Document.{Document}
use Rattle.bspl_parser.specs.declared.symbol.Symbol.{Symbol}
use Rattle.bspl_parser.specs.declared.symbol.Symbol.TheVariants.{Roles, Role, Parameters, Parameter}
use Rattle.bspl_parser.specs.declared.symbol.Symbol.TheVariants.{Private, In, Out, Nil, Any, Opt}
use Rattle.bspl_parser.specs.declared.symbol.Symbol.TheVariants.{Key, Arrow, OpenBrace, CloseBrace}
use Rattle.bspl_parser.specs.declared.symbol.Symbol.TheVariants.{OpenBracket, CloseBracket}
use Rattle.bspl_parser.specs.declared.symbol.Symbol.TheVariants.{OpenParen, CloseParen, Colon}
use Rattle.bspl_parser.specs.declared.word.Word.{Word}
use Rattle.bspl_parser.specs.Sign.{Sign, Named, Located, Plain, OneOf, after_commas, listed}

-- name
abbrev pub signs_of_word : Word → List Sign
signs_of_word word = Named word ∷ []

-- "in" | "out" | "nil" | "any" | "opt"
abbrev pub symbol_of : Adorn → Symbol
symbol_of adorn.In = In
symbol_of adorn.Out = Out
symbol_of adorn.Nil = Nil
symbol_of adorn.Any = Any
symbol_of adorn.Opt = Opt

-- [ "key" ]
abbrev pub signs_of_key : Option ℕ → List Sign
signs_of_key None = []
signs_of_key (Some offset) = Located Key offset ∷ []

-- ( "in" | "out" | "any" | "opt" ) name [ "key" ] | "nil" name
abbrev pub signs_of_formal : Formal → List Sign
signs_of_formal f = Located (symbol_of f.adorn) f.offset ∷ Named f.name ∷ signs_of_key f.key

-- name arrow name ":" name "[" formal { "," formal } "]"
abbrev pub signs_of_message : Schema → List Sign
signs_of_message m =
    Named m.sender ∷ Plain Arrow ∷ Named m.receiver ∷ Plain Colon ∷ Named m.name ∷
    Plain OpenBracket ∷ (listed signs_of_formal m.params ++ Plain CloseBracket ∷ [])

-- name "(" name { "," name } { "," formal } ")"
abbrev pub signs_of_reference : Reference → List Sign
signs_of_reference r =
    Named r.protocol ∷ Plain OpenParen ∷ (listed signs_of_word r.roles ++
    (after_commas signs_of_formal r.params ++ Plain CloseParen ∷ []))

-- message | reference
abbrev pub signs_of_item : Item → List Sign
signs_of_item (item.Message m) = signs_of_message m
signs_of_item (item.Reference r) = signs_of_reference r

-- [ "private" name { "," name } ]
abbrev pub signs_of_private : List Word → List Sign
signs_of_private [] = []
signs_of_private (w ∷ ws) = Plain Private ∷ listed signs_of_word (w ∷ ws)

-- ( "roles" | "role" ) name { "," name } ( "parameters" | "parameter" ) formal { "," formal }
abbrev pub signs_of_head : Declaration → List Sign
signs_of_head d =
    OneOf Roles Role ∷ (listed signs_of_word d.roles ++
    OneOf Parameters Parameter ∷ listed signs_of_formal d.public)

-- name "{" roles params [ private ] { item } "}"
abbrev pub signs_of_declaration : Declaration → List Sign
signs_of_declaration d =
    Named d.name ∷ Plain OpenBrace ∷ (signs_of_head d ++ (signs_of_private d.private ++
    (flat_map signs_of_item d.body ++ Plain CloseBrace ∷ [])))

-- protocol { protocol }
abbrev pub signs_of_document : Document → List Sign
signs_of_document d = flat_map signs_of_declaration d.protocols
