-- The tokens before an error begin a valid document.
use Rattle.std.proofs.Common.{◌≡◌, List, [], ◌∷◌, ◌++◌, Ok, refl, sym, ap, append_assoc}
use Rattle.std.specs.List.{All, flat_map}
use Rattle.std.proofs.lemmas.List.Elements.{All-nil, All-cons}
use Rattle.bspl_parser.specs.declared.document.Formal.{Formal}
use Rattle.bspl_parser.specs.declared.document.Item.{Item}
use Rattle.bspl_parser.specs.declared.document.Declaration.{Declaration}
use Rattle.bspl_parser.specs.declared.list_kind.ListKind.TheVariants as list_kind
use Rattle.bspl_parser.specs.declared.symbol.Symbol.TheVariants.{OpenBrace, CloseBrace, Roles, Role, Parameters, Parameter, Private}
use Rattle.bspl_parser.specs.declared.token.Token.{Token}
use Rattle.bspl_parser.specs.declared.word.Word.{Word}
use Rattle.bspl_parser.specs.Grammar.{signs_of_word, signs_of_formal, signs_of_item, signs_of_private, signs_of_declaration, signs_of_document}
use Rattle.bspl_parser.specs.inner.ParseResult.{◌>>=◌}
use Rattle.bspl_parser.specs.Sign.{Sign, Named, Plain, OneOf, listed}
use Rattle.bspl_parser.specs.Spelling.{IsItem, IsDeclaration, IsDocument}
use Rattle.bspl_parser.specs.inner.TokenParsers.{begins_with, parse_word, parse_symbol}
use Rattle.bspl_parser.specs.inner.GrammarParsers.{with_prefix, parse_many, parse_list, parse_item, parse_private, parse_declaration, parse_document}
use Rattle.bspl_parser.proofs.Spelled.{Spelled}
use Rattle.bspl_parser.proofs.Lists.{many-sound}
use Rattle.bspl_parser.proofs.Items.{item_reads, items_repeat}
use Rattle.bspl_parser.proofs.Declarations.{private_sound, declaration_reads, declarations_repeat}
use Rattle.bspl_parser.proofs.PrefixStable.{PrefixStable}
use Rattle.bspl_parser.proofs.PrefixStableLists.{phrases_stable, name_notes, rest_notes}
use Rattle.bspl_parser.proofs.PrefixStablePhrases.{step_shortens, private_stable, AnyTokens}
use Rattle.bspl_parser.proofs.PrefixStableReferences.{some_word, some_formal}
use Rattle.bspl_parser.proofs.PrefixStableDocuments.{all_items, all_declarations}
use Rattle.bspl_parser.proofs.ErrorPosition.{FailsViably, then_viable, viable_as, either_viable, never_viable}
use Rattle.bspl_parser.proofs.ErrorPositionLists.{many_viable}
use Rattle.bspl_parser.proofs.ErrorPositionPhrases.{Any, plain_sign, no_sign, begins_prefix, done_viable, word_then, symbol_then, one_of_then, words_then, formals_then, words_viable, prefix_viable, step_sound, one_formal, one_word}
use Rattle.bspl_parser.proofs.ErrorPositionItems.{item_viable, made_viable}

-- the items of a body
items_stable : PrefixStable (parse_many list_kind.Name parse_item)
items_stable = phrases_stable list_kind.Name parse_item all_items (step_shortens list_kind.Name parse_item _ _ AnyTokens item_reads items_repeat) name_notes

items_viable : FailsViably (parse_many list_kind.Name parse_item) (λ (is : List Item). flat_map signs_of_item is) (All IsItem)
items_viable = many_viable list_kind.Name parse_item signs_of_item IsItem all_items (step_shortens list_kind.Name parse_item _ _ AnyTokens item_reads items_repeat) name_notes (step_sound list_kind.Name parse_item signs_of_item IsItem AnyTokens item_reads) item_viable

-- the private parameters
private_viable : FailsViably parse_private signs_of_private Any
unfolding parse_private
private_viable =
    either_viable (begins_with Private) (λ ts. parse_symbol Private ts >>= λ word. parse_list parse_word word.1) (λ ts. Ok ([], ts)) signs_of_private Any (begins_prefix Private)
    (viable_as (λ ts. parse_symbol Private ts >>= λ word. parse_list parse_word word.1) (λ (v : Unit {0} × (Word × List Word)). plain_sign Private v.0 ++ listed signs_of_word (v.1.0 ∷ v.1.1)) (λ v. Any v.0 × (Any v.1.0 × All Any v.1.1)) signs_of_private Any (λ v. v.1.0 ∷ v.1.1) (λ v. refl) (λ v good. tt)
    (symbol_then (λ (v : Word × List Word). listed signs_of_word (v.0 ∷ v.1)) (λ v. Any v.0 × All Any v.1) (some_word, []) (tt, All-nil Any) Private (λ o. parse_list parse_word) (λ o. words_viable)))
    (never_viable (λ ts. Ok ([], ts)) signs_of_private Any (λ ts f e. cc))

-- a protocol from the private parameters on
abbrev body_signs : List Word × (List Item × (Unit {0} × Unit {0})) → List Sign
body_signs v = signs_of_private v.0 ++ (flat_map signs_of_item v.1.0 ++ (plain_sign CloseBrace v.1.1.0 ++ no_sign v.1.1.1))

abbrev body_good : List Word × (List Item × (Unit {0} × Unit {0})) → Type 0
body_good v = Any v.0 × (All IsItem v.1.0 × (Any v.1.1.0 × Any v.1.1.1))

body_viable : {X : Type 0} (make : List Word → List Item → X) → FailsViably {X = X} (λ ts. parse_private ts >>= λ private. parse_many list_kind.Name parse_item private.1 >>= λ body. parse_symbol CloseBrace body.1 >>= λ close. Ok (make private.0 body.0, close.1)) body_signs body_good
body_viable make =
    then_viable parse_private (λ private ts. parse_many list_kind.Name parse_item ts >>= λ body. parse_symbol CloseBrace body.1 >>= λ close. Ok (make private body.0, close.1)) signs_of_private Any _ _ private_stable (λ ws. ws) (λ ts rest ws e. (private_sound ts rest ws e, tt)) private_viable
    (λ private. then_viable (parse_many list_kind.Name parse_item) (λ body ts. parse_symbol CloseBrace ts >>= λ close. Ok (make private body, close.1)) (λ is. flat_map signs_of_item is) (All IsItem) (λ (v : Unit {0} × Unit {0}). plain_sign CloseBrace v.0 ++ no_sign v.1) (λ v. Any v.0 × Any v.1)
    items_stable (λ is. is) (λ ts rest is e. many-sound list_kind.Name parse_item signs_of_item IsItem AnyTokens item_reads ts rest is e) items_viable
    (λ body. symbol_then no_sign Any tt tt CloseBrace (λ o ts. Ok (make private body, ts)) (λ close. done_viable (make private body))) (tt, tt) (tt, tt))
    ([], (tt, tt)) (All-nil IsItem, (tt, tt))

-- a protocol
declaration_viable : FailsViably parse_declaration signs_of_declaration IsDeclaration
unfolding parse_declaration
declaration_viable =
    let end : List Word × (List Item × (Unit {0} × Unit {0})) = ([], ([], (tt, tt))) in
    let end_good : body_good end = (tt, (All-nil IsItem, (tt, tt))) in
    viable_as parse_declaration _ _ signs_of_declaration IsDeclaration
    (λ (v : Word × (Unit {0} × (Unit {0} × (List Word × (Unit {0} × (List Formal × (List Word × (List Item × (Unit {0} × Unit {0}))))))))). record { name = v.0; roles = v.1.1.1.0; public = v.1.1.1.1.1.0; private = v.1.1.1.1.1.1.0; body = v.1.1.1.1.1.1.1.0 })
    (λ v. ap (λ signs. Named v.0 ∷ Plain OpenBrace ∷ OneOf Roles Role ∷ signs) (sym (append_assoc (listed signs_of_word v.1.1.1.0) (OneOf Parameters Parameter ∷ listed signs_of_formal v.1.1.1.1.1.0) (body_signs v.1.1.1.1.1.1))))
    (λ v good. record { some_role = good.1.1.1.0.some; some_public = good.1.1.1.1.1.0.some; each_public = good.1.1.1.1.1.0.each; each_item = good.1.1.1.1.1.1.1.0 })
    (word_then _ _ (tt, (tt, (some_word ∷ [], (tt, (some_formal ∷ [], end))))) (tt, (tt, (one_word, (tt, (one_formal, end_good))))) _ (λ name.
    symbol_then _ _ (tt, (some_word ∷ [], (tt, (some_formal ∷ [], end)))) (tt, (one_word, (tt, (one_formal, end_good)))) OpenBrace _ (λ brace.
    one_of_then _ _ (some_word ∷ [], (tt, (some_formal ∷ [], end))) (one_word, (tt, (one_formal, end_good))) Roles Role _ (λ roles_word.
    words_then _ _ (tt, (some_formal ∷ [], end)) (tt, (one_formal, end_good)) _ (λ roles.
    one_of_then _ _ (some_formal ∷ [], end) (one_formal, end_good) Parameters Parameter _ (λ public_word.
    formals_then body_signs body_good end end_good _ (λ public.
    body_viable (λ private body. record { name = name; roles = roles; public = public; private = private; body = body }))))))))

-- a document
pub document_viable : FailsViably parse_document signs_of_document IsDocument
unfolding parse_document
document_viable =
    let more = phrases_stable list_kind.Rest parse_declaration all_declarations (step_shortens list_kind.Rest parse_declaration _ _ AnyTokens declaration_reads declarations_repeat) rest_notes in
    let more_viable : FailsViably (parse_many list_kind.Rest parse_declaration) (λ (ds : List Declaration). flat_map signs_of_declaration ds) (All IsDeclaration) = many_viable list_kind.Rest parse_declaration signs_of_declaration IsDeclaration all_declarations (step_shortens list_kind.Rest parse_declaration _ _ AnyTokens declaration_reads declarations_repeat) rest_notes (step_sound list_kind.Rest parse_declaration signs_of_declaration IsDeclaration AnyTokens declaration_reads) declaration_viable in
    let sound : (ts rest : List Token) (ds : List Declaration) → parse_many list_kind.Rest parse_declaration ts ≡ Ok (ds, rest) → Spelled (flat_map signs_of_declaration ds) ts rest × All IsDeclaration ds = many-sound list_kind.Rest parse_declaration signs_of_declaration IsDeclaration AnyTokens declaration_reads in
    viable_as parse_document (λ (v : Declaration × List Declaration). signs_of_declaration v.0 ++ flat_map signs_of_declaration v.1) (λ v. IsDeclaration v.0 × All IsDeclaration v.1) signs_of_document IsDocument (λ v. record { protocols = v.0 ∷ v.1 }) (λ v. refl)
    (λ v good. record { some = λ is. cc; each = All-cons IsDeclaration v.0 v.1 good.0 good.1 })
    (then_viable parse_declaration (λ first ts. with_prefix (first ∷ []) (parse_many list_kind.Rest parse_declaration ts) >>= λ all. Ok (record { protocols = all.0 }, all.1)) signs_of_declaration IsDeclaration (λ (ds : List Declaration). flat_map signs_of_declaration ds) (All IsDeclaration)
    all_declarations (λ d. d) declaration_reads.sound declaration_viable
    (λ first. made_viable (λ ts. with_prefix (first ∷ []) (parse_many list_kind.Rest parse_declaration ts)) (λ all. record { protocols = all }) (λ ds. flat_map signs_of_declaration ds) (All IsDeclaration)
    (prefix_viable (first ∷ []) (parse_many list_kind.Rest parse_declaration) (λ ds. flat_map signs_of_declaration ds) (All IsDeclaration) more (λ ds. ds) sound more_viable))
    [] (All-nil IsDeclaration))
