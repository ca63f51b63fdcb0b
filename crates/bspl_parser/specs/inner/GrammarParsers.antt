-- Reading from lists up to the whole document, each part as its line of the grammar has it.
use Rattle.std.specs.Prelude.{ℕ, zero, suc, Bool, true, false, not, ◌&&◌, ◌==◌, if◌then◌else◌, List}
use Rattle.std.specs.Prelude.{[], ◌∷◌, ◌++◌, drop, length, Result, Ok}
use Rattle.bspl_parser.specs.declared.list_kind.ListKind.{ListKind}
use Rattle.bspl_parser.specs.declared.list_kind.ListKind.TheVariants as list_kind
use Rattle.bspl_parser.specs.declared.document.Formal.{Formal}
use Rattle.bspl_parser.specs.declared.document.Schema.{Schema}
use Rattle.bspl_parser.specs.declared.document.Reference.{Reference}
use Rattle.bspl_parser.specs.declared.document.Item.{Item}
use Rattle.bspl_parser.specs.declared.document.Item.TheVariants as item
use Rattle.bspl_parser.specs.declared.document.Declaration.{Declaration}
use Rattle.bspl_parser.specs.declared.document.Document.{Document}
use Rattle.bspl_parser.specs.declared.parse_error.ErrorPosition.{ErrorPosition}
use Rattle.bspl_parser.specs.declared.symbol.Symbol.TheVariants.{Roles, Role, Parameters, Parameter}
use Rattle.bspl_parser.specs.declared.symbol.Symbol.TheVariants.{Private, Arrow, OpenBrace}
use Rattle.bspl_parser.specs.declared.symbol.Symbol.TheVariants.{CloseBrace, OpenBracket}
use Rattle.bspl_parser.specs.declared.symbol.Symbol.TheVariants.{CloseBracket, OpenParen}
use Rattle.bspl_parser.specs.declared.symbol.Symbol.TheVariants.{CloseParen, Comma, Colon}
use Rattle.bspl_parser.specs.declared.token.Token.{Token}
use Rattle.bspl_parser.specs.declared.word.Word.{Word}
use Rattle.bspl_parser.specs.inner.ParseResult.{ParseResult, ◌>>=◌}
use Rattle.bspl_parser.specs.inner.TokenParsers.{begins_with, begins_with_name, parse_word}
use Rattle.bspl_parser.specs.inner.TokenParsers.{parse_symbol, parse_word_after}
use Rattle.bspl_parser.specs.inner.TokenParsers.{parse_either, parse_adorn, parse_key}

-- a further item of the list comes
abbrev pub has_more : ListKind → List Token → Bool
has_more list_kind.Comma ts = begins_with Comma ts
has_more list_kind.CommaName ts = begins_with Comma ts && begins_with_name (drop 1 ts)
has_more list_kind.Name ts = begins_with_name ts
has_more list_kind.Rest ts = not (length ts == 0)

-- a comma separates the items
abbrev pub has_comma : ListKind → Bool
has_comma list_kind.Comma = true
has_comma list_kind.CommaName = true
has_comma list_kind.Name = false
has_comma list_kind.Rest = false

-- the tokens after the comma, if there is one
abbrev pub parse_separator : ListKind → List Token → Result (List Token) ErrorPosition
parse_separator kind ts =
    if has_comma kind then (parse_symbol Comma ts >>= λ comma. Ok comma.1) else Ok ts

-- the items that were read before, and those of the reading
abbrev pub with_prefix : {X : Type 0} → List X → ParseResult (List X) → ParseResult (List X)
with_prefix prefix reading = reading >>= λ more. Ok (prefix ++ more.0, more.1)

-- further items, up to that number
unfoldable pub parse_many_within : {X : Type 0} → ListKind → (List Token → ParseResult X) → ℕ
    → List Token → ParseResult (List X)
parse_many_within kind one zero ts = Ok ([], ts)
parse_many_within kind one (suc n) ts =
    if has_more kind ts
    then (parse_separator kind ts >>= λ after. one after >>= λ x.
    with_prefix (x.0 ∷ []) (parse_many_within kind one n x.1))
    else Ok ([], ts)

-- all further items
abbrev pub parse_many : {X : Type 0} → ListKind → (List Token → ParseResult X)
    → List Token → ParseResult (List X)
parse_many kind one ts = parse_many_within kind one (length ts) ts

-- x { "," x }
unfoldable pub parse_list : {X : Type 0} → (List Token → ParseResult X)
    → List Token → ParseResult (List X)
parse_list one ts =
    one ts >>= λ first. with_prefix (first.0 ∷ []) (parse_many list_kind.Comma one first.1)

-- an adorned parameter
unfoldable pub parse_formal : List Token → ParseResult Formal
parse_formal ts = do
  adorned ← parse_adorn ts
  name ← parse_word adorned.1
  key ← parse_key adorned.0.0 name.1
  Ok (record { adorn = adorned.0.0; offset = adorned.0.1; name = name.0; key = key.0 }, key.1)

-- parameters in brackets
unfoldable pub parse_bracketed : List Token → ParseResult (List Formal)
parse_bracketed ts = do
  open_bracket ← parse_symbol OpenBracket ts
  params ← parse_list parse_formal open_bracket.1
  close ← parse_symbol CloseBracket params.1
  Ok (params.0, close.1)

-- a message, after its sender
unfoldable pub parse_message : Word → List Token → ParseResult Schema
parse_message sender ts = do
  arrow ← parse_symbol Arrow ts
  receiver ← parse_word arrow.1
  colon ← parse_symbol Colon receiver.1
  name ← parse_word colon.1
  open_bracket ← parse_symbol OpenBracket name.1
  params ← parse_list parse_formal open_bracket.1
  close ← parse_symbol CloseBracket params.1
  Ok (record { sender = sender; receiver = receiver.0; name = name.0; params = params.0 }, close.1)

-- the same, by its parts
abbrev pub parse_message_parts : Word → List Token → ParseResult Schema
parse_message_parts sender ts = do
  receiver ← parse_word_after Arrow ts
  name ← parse_word_after Colon receiver.1
  params ← parse_bracketed name.1
  Ok (record { sender = sender; receiver = receiver.0; name = name.0; params = params.0 }, params.1)

-- a reference, after its roles
abbrev pub parse_from_given : Word → List Word → List Token → ParseResult Reference
parse_from_given protocol roles ts = do
  params ← parse_many list_kind.Comma parse_formal ts
  close ← parse_symbol CloseParen params.1
  Ok (record { protocol = protocol; roles = roles; params = params.0 }, close.1)

-- a reference, after its protocol's name
unfoldable pub parse_reference : Word → List Token → ParseResult Reference
parse_reference protocol ts = do
  open_paren ← parse_symbol OpenParen ts
  first ← parse_word open_paren.1
  roles ← with_prefix (first.0 ∷ []) (parse_many list_kind.CommaName parse_word first.1)
  parse_from_given protocol roles.0 roles.1

-- a reference if `(` follows the name, and otherwise a message
unfoldable pub parse_item : List Token → ParseResult Item
parse_item ts = do
  name ← parse_word ts
  if begins_with OpenParen name.1
      then (parse_reference name.0 name.1 >>= λ r. Ok (item.Reference r.0, r.1))
      else (parse_message name.0 name.1 >>= λ m. Ok (item.Message m.0, m.1))

-- the private parameters, if the word comes
unfoldable pub parse_private : List Token → ParseResult (List Word)
parse_private ts =
    if begins_with Private ts
    then (parse_symbol Private ts >>= λ word. parse_list parse_word word.1)
    else Ok ([], ts)

-- a protocol, after its private parameters
abbrev pub parse_from_body : Word → List Word → List Formal → List Word
    → List Token → ParseResult Declaration
parse_from_body name roles public private ts = do
  body ← parse_many list_kind.Name parse_item ts
  close ← parse_symbol CloseBrace body.1
  Ok (
    record {
      name = name;
      roles = roles;
      public = public;
      private = private;
      body = body.0;
    },
    close.1,
  )

-- a protocol, after its roles
abbrev pub parse_from_public : Word → List Word → List Token → ParseResult Declaration
parse_from_public name roles ts = do
  public_word ← parse_either Parameters Parameter ts
  public ← parse_list parse_formal public_word.1
  private ← parse_private public.1
  parse_from_body name roles public.0 private.0 private.1

-- a protocol, after its `{`
abbrev pub parse_from_roles : Word → List Token → ParseResult Declaration
parse_from_roles name ts = do
  roles_word ← parse_either Roles Role ts
  roles ← parse_list parse_word roles_word.1
  parse_from_public name roles.0 roles.1

-- a protocol
unfoldable pub parse_declaration : List Token → ParseResult Declaration
parse_declaration ts = do
  name ← parse_word ts
  open_brace ← parse_symbol OpenBrace name.1
  parse_from_roles name.0 open_brace.1

-- protocols up to the end
unfoldable pub parse_document : List Token → ParseResult Document
parse_document ts = do
  first ← parse_declaration ts
  protocols ← with_prefix (first.0 ∷ []) (parse_many list_kind.Rest parse_declaration first.1)
  Ok (record { protocols = protocols.0 }, protocols.1)
