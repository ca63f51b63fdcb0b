-- Reading protocols and documents.
use Rattle.std.proofs.Common.{◌≡◌, ◌≢◌, length, Bool, true, false, not, cond, List, [], ◌∷◌, ◌++◌, Ok, refl, ap, ◌∙◌, arith}
use Rattle.std.specs.List.{All, flat_map}
use Rattle.std.proofs.lemmas.List.Elements.{All-cons, All-head, All-tail}
use Rattle.std.proofs.lemmas.Bool.{ne_eqb}
use Rattle.bspl_parser.specs.declared.document.Item.{Item}
use Rattle.bspl_parser.specs.declared.document.Declaration.{Declaration}
use Rattle.bspl_parser.specs.declared.document.Document.{Document}
use Rattle.bspl_parser.specs.declared.list_kind.ListKind.TheVariants as list_kind
use Rattle.bspl_parser.specs.declared.symbol.Symbol.{Symbol}
use Rattle.bspl_parser.specs.declared.symbol.Symbol.TheVariants.{Roles, Role, Parameters, Parameter, Private, Key, OpenBrace, CloseBrace, Comma}
use Rattle.bspl_parser.specs.declared.token.Token.{Token}
use Rattle.bspl_parser.specs.declared.word.Word.{Word}
use Rattle.bspl_parser.specs.inner.SymbolTable.{same_symbol}
use Rattle.bspl_parser.specs.Sign.{Sign, Named, Plain, OneOf, listed}
use Rattle.bspl_parser.specs.Grammar.{signs_of_word, signs_of_formal, signs_of_item, signs_of_private, signs_of_head, signs_of_declaration, signs_of_document}
use Rattle.bspl_parser.specs.Spelling.{IsFormal, IsItem, IsDeclaration, Spells}
use Rattle.bspl_parser.specs.inner.ParseResult.{◌>>=◌, ParseResult}
use Rattle.bspl_parser.specs.inner.TokenParsers.{begins_with, parse_word, parse_symbol, parse_either}
use Rattle.bspl_parser.specs.inner.GrammarParsers.{parse_formal, parse_item, with_prefix, parse_many, parse_list, parse_private, parse_declaration, parse_document}
use Rattle.bspl_parser.proofs.Spelled.{Spelled, Spelled-then, Spelled-shorter, Spelled-whole, whole_from_Spelled, Reads, bind_then, split_then, took}
use Rattle.bspl_parser.proofs.Primitives.{word_sound, word_complete, word_reads, plain_sound, plain_complete, either_sound, either_complete}
use Rattle.bspl_parser.proofs.Formals.{Keyless, formal_reads}
use Rattle.bspl_parser.proofs.Lists.{Repeats, many-sound, many-complete}
use Rattle.bspl_parser.proofs.Listed.{GoodList, listed-sound, listed-complete, words_repeat, formals_repeat, begins-plain, begins-either, plain_is_no_name}
use Rattle.bspl_parser.proofs.Items.{item_reads, items_repeat, items_begin}

-- of any word
abbrev pub AnyWord : Word → Type 0
AnyWord w = Unit {0}

-- before any tokens
abbrev pub AnyTokens : List Token → Type 0
AnyTokens ts = Unit {0}

-- the signs from the body on
abbrev pub body_on : List Item → List Sign
body_on body = flat_map signs_of_item body ++ Plain CloseBrace ∷ []

-- what a body and its brace do not begin with
body_begins : (t : Symbol) → same_symbol CloseBrace t ≡ false → (body : List Item) (ts rest : List Token) → Spelled (body_on body) ts rest → begins_with t ts ≡ false
body_begins t other [] ts rest spelled = begins-plain CloseBrace t [] ts rest spelled ∙ other
body_begins t other (i ∷ is) ts rest spelled =
    split_then (signs_of_item i ++ flat_map signs_of_item is) (Plain CloseBrace ∷ []) ts rest spelled (λ mid items close.
    split_then (signs_of_item i) (flat_map signs_of_item is) ts mid items (λ left first further. items_begin i t ts left first))

-- the private parameters
private_found : (ts rest : List Token) (ws : List Word) (goes : Bool) → ◌≡◌ {A = ParseResult (List Word)} (cond goes (◌>>=◌ {B = List Word × List Token} (parse_symbol Private ts) (λ word. parse_list parse_word word.1)) (Ok ([], ts))) (Ok (ws, rest)) → Spelled (signs_of_private ws) ts rest
private_found ts rest ws true e =
    bind_then (parse_symbol Private ts) _ (ws, rest) e (λ word read then_list.
    let list = listed-sound parse_word signs_of_word AnyWord AnyTokens word_reads word.1 rest ws then_list in
    following ws list.1.some (Spelled-then (Plain Private ∷ []) (listed signs_of_word ws) ts word.1 rest (plain_sound Private ts word.1 word.0 read) list.0))
  where
    following : (ws : List Word) → ws ≢ [] → Spelled (Plain Private ∷ listed signs_of_word ws) ts rest → Spelled (signs_of_private ws) ts rest
    following [] some spelled = absurd (some refl)
    following (w ∷ ws) some spelled = spelled
private_found ts rest ws false e = (took signs_of_private (λ list. Unit {0}) ts ([], ts) (ws, rest) e refl tt).0

-- the private parameters that are read are spelled by their signs
pub private_sound : (ts rest : List Token) (ws : List Word) → parse_private ts ≡ Ok (ws, rest) → Spelled (signs_of_private ws) ts rest
unfolding parse_private
private_sound ts rest ws e = private_found ts rest ws (begins_with Private ts) e

-- and those that signs spell are read
private_complete : (ts rest : List Token) (ws : List Word) → Spelled (signs_of_private ws) ts rest → begins_with Private rest ≡ false → begins_with Comma rest ≡ false → parse_private ts ≡ Ok (ws, rest)
unfolding parse_private
private_complete ts rest [] spelled no_private no_comma = rw (spelled, no_private) refl
private_complete ts rest (w ∷ ws) spelled no_private no_comma =
    split_then (Plain Private ∷ []) (listed signs_of_word (w ∷ ws)) ts rest spelled (λ mid word list.
    let begins : begins_with Private ts ≡ true = begins-plain Private Private [] ts mid word in
    let again = listed-complete parse_word signs_of_word AnyWord AnyTokens word_reads words_repeat mid rest (w ∷ ws) list (record { some = λ is. cc; each = λ k d below. tt }) no_comma tt in
    rw (begins, (plain_complete Private ts mid word).1, again) refl)

-- the signs from the private parameters on
abbrev pub private_on : List Word → List Item → List Sign
private_on private body = signs_of_private private ++ body_on body

-- what they do not begin with
private_begins : (t : Symbol) → same_symbol Private t ≡ false → same_symbol CloseBrace t ≡ false → (private : List Word) (body : List Item) (ts rest : List Token) → Spelled (private_on private body) ts rest → begins_with t ts ≡ false
private_begins t other brace [] body ts rest spelled = body_begins t brace body ts rest spelled
private_begins t other brace (w ∷ ws) body ts rest spelled = begins-plain Private t (listed signs_of_word (w ∷ ws) ++ body_on body) ts rest spelled ∙ other

-- a protocol that is read is spelled by its signs
declaration_sound : (ts rest : List Token) (d : Declaration) → parse_declaration ts ≡ Ok (d, rest) → Spelled (signs_of_declaration d) ts rest × IsDeclaration d
unfolding parse_declaration
declaration_sound ts rest d e =
    bind_then (parse_word ts) _ (d, rest) e (λ name name_read then_open.
    bind_then (parse_symbol OpenBrace name.1) _ (d, rest) then_open (λ brace brace_read then_roles_word.
    bind_then (parse_either Roles Role brace.1) _ (d, rest) then_roles_word (λ roles_word roles_word_read then_roles.
    bind_then (parse_list parse_word roles_word.1) _ (d, rest) then_roles (λ roles roles_read then_public_word.
    bind_then (parse_either Parameters Parameter roles.1) _ (d, rest) then_public_word (λ public_word public_word_read then_public.
    bind_then (parse_list parse_formal public_word.1) _ (d, rest) then_public (λ public public_read then_private.
    bind_then (parse_private public.1) _ (d, rest) then_private (λ private private_read then_body.
    bind_then (parse_many list_kind.Name parse_item private.1) _ (d, rest) then_body (λ body body_read then_close.
    bind_then (parse_symbol CloseBrace body.1) _ (d, rest) then_close (λ close close_read made.
    let role_list = listed-sound parse_word signs_of_word AnyWord AnyTokens word_reads roles_word.1 roles.1 roles.0 roles_read in
    let public_list = listed-sound parse_formal signs_of_formal IsFormal Keyless formal_reads public_word.1 public.1 public.0 public_read in
    let items = many-sound list_kind.Name parse_item signs_of_item IsItem AnyTokens item_reads private.1 body.1 body.0 body_read in
    let from_body = Spelled-then (flat_map signs_of_item body.0) (Plain CloseBrace ∷ []) private.1 body.1 close.1 items.0 (plain_sound CloseBrace body.1 close.1 close.0 close_read) in
    let from_private = Spelled-then (signs_of_private private.0) (body_on body.0) public.1 private.1 close.1 (private_sound public.1 private.1 private.0 private_read) from_body in
    let publics = Spelled-then (OneOf Parameters Parameter ∷ []) (listed signs_of_formal public.0) roles.1 public_word.1 public.1 (either_sound Parameters Parameter roles.1 public_word.1 public_word.0 public_word_read) public_list.0 in
    let from_roles = Spelled-then (listed signs_of_word roles.0) (OneOf Parameters Parameter ∷ listed signs_of_formal public.0) roles_word.1 roles.1 public.1 role_list.0 publics in
    let head : List Sign = OneOf Roles Role ∷ (listed signs_of_word roles.0 ++ OneOf Parameters Parameter ∷ listed signs_of_formal public.0) in
    let heads : Spelled head brace.1 public.1 = Spelled-then (OneOf Roles Role ∷ []) (listed signs_of_word roles.0 ++ OneOf Parameters Parameter ∷ listed signs_of_formal public.0) brace.1 roles_word.1 public.1 (either_sound Roles Role brace.1 roles_word.1 roles_word.0 roles_word_read) from_roles in
    let from_head = Spelled-then head (private_on private.0 body.0) brace.1 public.1 close.1 heads from_private in
    let from_brace = Spelled-then (Plain OpenBrace ∷ []) (head ++ private_on private.0 body.0) name.1 brace.1 close.1 (plain_sound OpenBrace name.1 brace.1 brace.0 brace_read) from_head in
    let whole = Spelled-then (Named name.0 ∷ []) (Plain OpenBrace ∷ (head ++ private_on private.0 body.0)) ts name.1 close.1 (word_sound ts name.1 name.0 name_read) from_brace in
    took signs_of_declaration IsDeclaration ts (record { name = name.0; roles = roles.0; public = public.0; private = private.0; body = body.0 }, close.1) (d, rest) made whole
    (record { some_role = role_list.1.some; some_public = public_list.1.some; each_public = public_list.1.each; each_item = items.1 }))))))))))

-- and one that its signs spell is read
declaration_complete : (ts rest : List Token) (d : Declaration) → Spelled (signs_of_declaration d) ts rest → IsDeclaration d → parse_declaration ts ≡ Ok (d, rest)
unfolding parse_declaration
declaration_complete ts rest d spelled good =
    let tail : List Sign = private_on d.private d.body in
    let publics : List Sign = OneOf Parameters Parameter ∷ listed signs_of_formal d.public in
    let roles_on : List Sign = listed signs_of_word d.roles ++ publics in
    split_then (Named d.name ∷ []) (Plain OpenBrace ∷ ((OneOf Roles Role ∷ roles_on) ++ tail)) ts rest spelled (λ at_brace name from_brace.
    split_then (Plain OpenBrace ∷ []) ((OneOf Roles Role ∷ roles_on) ++ tail) at_brace rest from_brace (λ at_head brace from_head.
    split_then (OneOf Roles Role ∷ roles_on) tail at_head rest from_head (λ at_private head from_private.
    split_then (OneOf Roles Role ∷ []) roles_on at_head at_private head (λ at_roles roles_word from_roles.
    split_then (listed signs_of_word d.roles) publics at_roles at_private from_roles (λ at_public_word roles from_public_word.
    split_then (OneOf Parameters Parameter ∷ []) (listed signs_of_formal d.public) at_public_word at_private from_public_word (λ at_public public_word public.
    split_then (signs_of_private d.private) (body_on d.body) at_private rest from_private (λ at_body private from_body.
    split_then (flat_map signs_of_item d.body) (Plain CloseBrace ∷ []) at_body rest from_body (λ at_close body close.
    let roles_again = listed-complete parse_word signs_of_word AnyWord AnyTokens word_reads words_repeat at_roles at_public_word d.roles roles (record { some = good.some_role; each = λ k w below. tt })
    (begins-either Parameters Parameter Comma [] at_public_word at_public refl refl public_word) tt in
    let public_again = listed-complete parse_formal signs_of_formal IsFormal Keyless formal_reads formals_repeat at_public at_private d.public public (record { some = good.some_public; each = good.each_public })
    (private_begins Comma refl refl d.private d.body at_private rest from_private) (private_begins Key refl refl d.private d.body at_private rest from_private) in
    let private_again = private_complete at_private at_body d.private private (body_begins Private refl d.body at_body rest from_body) (body_begins Comma refl d.body at_body rest from_body) in
    let body_again = many-complete list_kind.Name parse_item signs_of_item IsItem AnyTokens item_reads items_repeat at_body at_close d.body body good.each_item (plain_is_no_name CloseBrace [] at_close rest close) tt in
    rw (word_complete ts at_brace d.name name, (plain_complete OpenBrace at_brace at_head brace).1, (either_complete Roles Role at_head at_roles roles_word).1, roles_again, (either_complete Parameters Parameter at_public_word at_public public_word).1, public_again, private_again, body_again, (plain_complete CloseBrace at_close rest close).1) refl))))))))

-- the signs of a protocol after its name
abbrev pub after_name : Declaration → List Sign
after_name d = Plain OpenBrace ∷ (signs_of_head d ++ private_on d.private d.body)

pub declaration_reads : Reads parse_declaration signs_of_declaration IsDeclaration AnyTokens
declaration_reads = record { sound = declaration_sound; complete = λ ts rest d spelled good may. declaration_complete ts rest d spelled good }

pub declarations_repeat : Repeats list_kind.Rest signs_of_declaration AnyTokens
declarations_repeat =
    record {
      goes = λ d ts rest spelled. rw spelled.2 (ap not (ne_eqb (length (spelled.0 ∷ spelled.1)) 0 (λ is. omega arith)));
      seam = λ d ts rest spelled. tt;
      shorter = λ d ts rest spelled. Spelled-shorter (Named d.name) (after_name d) ts rest spelled;
    }

-- a document that is read up to the end of the tokens is spelled by them
pub document_sound : (ts : List Token) (d : Document) → parse_document ts ≡ Ok (d, []) → Spells ts d
unfolding parse_document
document_sound ts d e =
    bind_then (parse_declaration ts) _ (d, []) e (λ first first_read then_rest.
    bind_then (with_prefix (first.0 ∷ []) (parse_many list_kind.Rest parse_declaration first.1)) _ (d, []) then_rest (λ all all_read made.
    bind_then (parse_many list_kind.Rest parse_declaration first.1) _ all all_read (λ more more_read all_made.
    let one = declaration_sound ts first.1 first.0 first_read in
    let others = many-sound list_kind.Rest parse_declaration signs_of_declaration IsDeclaration AnyTokens declaration_reads first.1 more.1 more.0 more_read in
    let list = took (λ ds. flat_map signs_of_declaration ds) (GoodList IsDeclaration) ts (first.0 ∷ more.0, more.1) all all_made
    (Spelled-then (signs_of_declaration first.0) (flat_map signs_of_declaration more.0) ts first.1 more.1 one.0 others.0)
    (record { some = λ is. cc; each = All-cons IsDeclaration first.0 more.0 one.1 others.1 }) in
    let whole = took signs_of_document (λ x. GoodList IsDeclaration x.protocols) ts (record { protocols = all.0 }, all.1) (d, []) made list.0 list.1 in
    record { formed = record { some = whole.1.some; each = whole.1.each }; signed = whole_from_Spelled (signs_of_document d) ts whole.0 })))

-- and a document that they spell is read
pub document_complete : (ts : List Token) (d : Document) → Spells ts d → parse_document ts ≡ Ok (d, [])
unfolding parse_document
document_complete ts d spells = again d.protocols spells.formed.some spells.formed.each (Spelled-whole (signs_of_document d) ts spells.signed)
  where
    again : (ds : List Declaration) → ds ≢ [] → All IsDeclaration ds → Spelled (flat_map signs_of_declaration ds) ts [] → parse_document ts ≡ Ok (record { protocols = ds }, [])
    again [] some each spelled = absurd (some refl)
    again (p ∷ ps) some each spelled =
        split_then (signs_of_declaration p) (flat_map signs_of_declaration ps) ts [] spelled (λ mid first further.
        rw (declaration_complete ts mid p first (All-head IsDeclaration p ps each), many-complete list_kind.Rest parse_declaration signs_of_declaration IsDeclaration AnyTokens declaration_reads declarations_repeat mid [] ps further (All-tail IsDeclaration p ps each) refl tt) refl)
