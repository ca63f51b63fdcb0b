-- What was read of a message, an item or a protocol is read again, whatever follows.
use Rattle.std.proofs.Common.{◌≡◌, ◌<◌, List, [], ◌∷◌, ◌++◌, length, Ok}
use Rattle.bspl_parser.specs.declared.document.Item.TheVariants as item
use Rattle.bspl_parser.specs.declared.list_kind.ListKind.{ListKind}
use Rattle.bspl_parser.specs.declared.list_kind.ListKind.TheVariants as list_kind
use Rattle.bspl_parser.specs.declared.symbol.Symbol.TheVariants.{Arrow, OpenBracket, CloseBracket, OpenBrace, CloseBrace, OpenParen, Colon, Roles, Role, Parameters, Parameter, Private}
use Rattle.bspl_parser.specs.declared.token.Token.{Token}
use Rattle.bspl_parser.specs.declared.word.Word.{Word}
use Rattle.bspl_parser.specs.Sign.{Sign}
use Rattle.bspl_parser.specs.inner.ParseResult.{ParseResult, ◌>>=◌}
use Rattle.bspl_parser.specs.inner.TokenParsers.{begins_with, parse_word, parse_symbol, parse_either}
use Rattle.bspl_parser.specs.inner.GrammarParsers.{with_prefix, parse_many, parse_list, parse_separator, parse_formal, parse_message, parse_reference, parse_item, parse_private, parse_declaration}
use Rattle.bspl_parser.proofs.Spelled.{Spelled-then, Reads, bind_then}
use Rattle.bspl_parser.proofs.Primitives.{word_reads}
use Rattle.bspl_parser.proofs.Formals.{Keyless, formal_reads}
use Rattle.bspl_parser.proofs.Lists.{separator, separator_sound, Repeats}
use Rattle.bspl_parser.proofs.Listed.{words_repeat, formals_repeat}
use Rattle.bspl_parser.proofs.Items.{item_reads, items_repeat}
use Rattle.bspl_parser.proofs.PrefixStable.{PrefixStable, either_stable, then_stable, nothing_stable}
use Rattle.bspl_parser.proofs.PrefixStableTokens.{word_stable, symbol_stable, one_of_stable, formal_stable}
use Rattle.bspl_parser.proofs.PrefixStableLists.{step, phrases_stable, comma_notes, name_notes}

-- an item with its separator takes a token
pub step_shortens : {X : Type 0} (kind : ListKind) (one : List Token → ParseResult X) (signs : X → List Sign) (Good : X → Type 0) (May : List Token → Type 0) → Reads one signs Good May → Repeats kind signs May → (ts rest : List Token) (x : X) → step kind one ts ≡ Ok (x, rest) → length rest < length ts
step_shortens kind one signs Good May reads repeats ts rest x e =
    bind_then (parse_separator kind ts) _ (x, rest) e (λ after separator_read read.
    repeats.shorter x ts rest (Spelled-then (separator kind) (signs x) ts after rest (separator_sound kind ts after separator_read) (reads.sound after rest x read).0))

-- items after commas, after a list that was read
pub prefix_stable : {X : Type 0} (prefix : List X) (many : List Token → ParseResult (List X)) → PrefixStable many → PrefixStable (λ ts. with_prefix prefix (many ts))
prefix_stable prefix many stable = then_stable many (λ more ts. Ok (prefix ++ more, ts)) stable (λ more. nothing_stable (prefix ++ more))

listed_stable : {X : Type 0} (one : List Token → ParseResult X) → PrefixStable one → PrefixStable (parse_many list_kind.Comma one) → PrefixStable (parse_list one)
unfolding parse_list
listed_stable one stable more = then_stable one (λ x ts. with_prefix (x ∷ []) (parse_many list_kind.Comma one ts)) stable (λ x. prefix_stable (x ∷ []) (parse_many list_kind.Comma one) more)

-- of any word
abbrev pub AnyWord : Word → Type 0
AnyWord w = Unit {0}

-- before any tokens
abbrev pub AnyTokens : List Token → Type 0
AnyTokens ts = Unit {0}

pub more_words : PrefixStable (parse_many list_kind.Comma parse_word)
more_words = phrases_stable list_kind.Comma parse_word word_stable (step_shortens list_kind.Comma parse_word _ AnyWord AnyTokens word_reads words_repeat) comma_notes

pub more_formals : PrefixStable (parse_many list_kind.Comma parse_formal)
more_formals = phrases_stable list_kind.Comma parse_formal formal_stable (step_shortens list_kind.Comma parse_formal _ _ Keyless formal_reads formals_repeat) comma_notes

pub words_stable : PrefixStable (parse_list parse_word)
words_stable = listed_stable parse_word word_stable more_words

pub formals_stable : PrefixStable (parse_list parse_formal)
formals_stable = listed_stable parse_formal formal_stable more_formals

message_stable : (sender : Word) → PrefixStable (parse_message sender)
unfolding parse_message
message_stable sender =
    then_stable (parse_symbol Arrow) _ (symbol_stable Arrow) (λ arrow.
    then_stable parse_word _ word_stable (λ receiver.
    then_stable (parse_symbol Colon) _ (symbol_stable Colon) (λ colon.
    then_stable parse_word _ word_stable (λ name.
    then_stable (parse_symbol OpenBracket) _ (symbol_stable OpenBracket) (λ open_bracket.
    then_stable (parse_list parse_formal) _ formals_stable (λ params.
    then_stable (parse_symbol CloseBracket) _ (symbol_stable CloseBracket) (λ close.
    nothing_stable (record { sender = sender; receiver = receiver; name = name; params = params }))))))))

pub item_stable : ((protocol : Word) → PrefixStable (parse_reference protocol)) → PrefixStable parse_item
unfolding parse_item
item_stable references =
    then_stable parse_word _ word_stable (λ name.
    either_stable (begins_with OpenParen) (λ a b alike. alike.symbols OpenParen)
    (λ ts. parse_reference name ts >>= λ r. Ok (item.Reference r.0, r.1)) (λ ts. parse_message name ts >>= λ m. Ok (item.Message m.0, m.1))
    (then_stable (parse_reference name) (λ r ts. Ok (item.Reference r, ts)) (references name) (λ r. nothing_stable (item.Reference r)))
    (then_stable (parse_message name) (λ m ts. Ok (item.Message m, ts)) (message_stable name) (λ m. nothing_stable (item.Message m))))

pub private_stable : PrefixStable parse_private
unfolding parse_private
private_stable =
    either_stable (begins_with Private) (λ a b alike. alike.symbols Private) (λ ts. parse_symbol Private ts >>= λ word. parse_list parse_word word.1) (λ ts. Ok ([], ts))
    (then_stable (parse_symbol Private) (λ o. parse_list parse_word) (symbol_stable Private) (λ o. words_stable)) (nothing_stable [])

pub declaration_stable : PrefixStable parse_item → PrefixStable parse_declaration
unfolding parse_declaration
declaration_stable items =
    let body = phrases_stable list_kind.Name parse_item items (step_shortens list_kind.Name parse_item _ _ AnyTokens item_reads items_repeat) name_notes in
    then_stable parse_word _ word_stable (λ name.
    then_stable (parse_symbol OpenBrace) _ (symbol_stable OpenBrace) (λ brace.
    then_stable (parse_either Roles Role) _ (one_of_stable Roles Role) (λ roles_word.
    then_stable (parse_list parse_word) _ words_stable (λ roles.
    then_stable (parse_either Parameters Parameter) _ (one_of_stable Parameters Parameter) (λ public_word.
    then_stable (parse_list parse_formal) _ formals_stable (λ public.
    then_stable parse_private _ private_stable (λ private.
    then_stable (parse_many list_kind.Name parse_item) _ body (λ items.
    then_stable (parse_symbol CloseBrace) _ (symbol_stable CloseBrace) (λ close.
    nothing_stable (record { name = name; roles = roles; public = public; private = private; body = items }))))))))))
