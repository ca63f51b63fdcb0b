-- Reading messages, references and items.
use Rattle.std.proofs.Common.{◌≡◌, ◌≢◌, ◌<◌, length, Bool, true, false, cond, List, [], ◌∷◌, ◌++◌, Ok, refl, ap, ◌∙◌}
use Rattle.bspl_parser.specs.declared.document.Formal.{Formal}
use Rattle.bspl_parser.specs.declared.document.Schema.{Schema}
use Rattle.bspl_parser.specs.declared.document.Reference.{Reference}
use Rattle.bspl_parser.specs.declared.document.Item.{Item}
use Rattle.bspl_parser.specs.declared.document.Item.TheVariants as item
use Rattle.bspl_parser.specs.declared.list_kind.ListKind.TheVariants as list_kind
use Rattle.bspl_parser.specs.declared.symbol.Symbol.{Symbol}
use Rattle.bspl_parser.specs.declared.symbol.Symbol.TheVariants.{Arrow, OpenBracket, CloseBracket, OpenParen, CloseParen, Comma, Colon, Key}
use Rattle.bspl_parser.specs.declared.token.Token.{Token}
use Rattle.bspl_parser.specs.declared.token.Token.TheVariants.{Fixed}
use Rattle.bspl_parser.specs.declared.word.Word.{Word}
use Rattle.bspl_parser.specs.Sign.{Sign, Named, Plain, after_commas, listed}
use Rattle.bspl_parser.specs.Grammar.{signs_of_word, signs_of_formal, signs_of_item}
use Rattle.bspl_parser.specs.Spelling.{IsFormal, IsSchema, IsReference, IsItem}
use Rattle.bspl_parser.specs.inner.ParseResult.{◌>>=◌, ParseResult}
use Rattle.bspl_parser.specs.inner.TokenParsers.{begins_with, begins_with_name, parse_word, parse_symbol}
use Rattle.bspl_parser.specs.inner.GrammarParsers.{has_more, parse_formal, with_prefix, parse_many, parse_list, parse_message, parse_reference, parse_item}
use Rattle.bspl_parser.proofs.Spelled.{Spelled, Spelled-then, Spelled-shorter, Reads, bind_then, split_then, took}
use Rattle.bspl_parser.proofs.Primitives.{word_sound, word_complete, word_reads, plain_sound, plain_complete}
use Rattle.bspl_parser.proofs.Formals.{Keyless, formal_reads}
use Rattle.bspl_parser.proofs.Lists.{Repeats, many-sound, many-complete}
use Rattle.bspl_parser.proofs.Listed.{listed-sound, listed-complete, formals_repeat, begins-plain, begins-named, named_begins}

-- the signs of a message after its sender
abbrev pub after_sender : Schema → List Sign
after_sender m = Plain Arrow ∷ Named m.receiver ∷ Plain Colon ∷ Named m.name ∷ Plain OpenBracket ∷ (listed signs_of_formal m.params ++ Plain CloseBracket ∷ [])

-- a message of that sender
pub record IsSent (sender : Word) (m : Schema) : Type 0 where
  pub by : m.sender ≡ sender
  pub schema : IsSchema m

-- a message that is read is spelled by its signs
message_sound : (sender : Word) (ts rest : List Token) (m : Schema) → parse_message sender ts ≡ Ok (m, rest) → Spelled (after_sender m) ts rest × IsSent sender m
unfolding parse_message
message_sound sender ts rest m e =
    bind_then (parse_symbol Arrow ts) _ (m, rest) e (λ arrow arrow_read then_receiver.
    bind_then (parse_word arrow.1) _ (m, rest) then_receiver (λ receiver receiver_read then_colon.
    bind_then (parse_symbol Colon receiver.1) _ (m, rest) then_colon (λ colon colon_read then_name.
    bind_then (parse_word colon.1) _ (m, rest) then_name (λ name name_read then_open.
    bind_then (parse_symbol OpenBracket name.1) _ (m, rest) then_open (λ open_bracket open_read then_params.
    bind_then (parse_list parse_formal open_bracket.1) _ (m, rest) then_params (λ params params_read then_close.
    bind_then (parse_symbol CloseBracket params.1) _ (m, rest) then_close (λ close close_read made.
    let list = listed-sound parse_formal signs_of_formal IsFormal Keyless formal_reads open_bracket.1 params.1 params.0 params_read in
    let from_params = Spelled-then (listed signs_of_formal params.0) (Plain CloseBracket ∷ []) open_bracket.1 params.1 close.1 list.0 (plain_sound CloseBracket params.1 close.1 close.0 close_read) in
    let after_name : List Sign = listed signs_of_formal params.0 ++ Plain CloseBracket ∷ [] in
    let from_open = Spelled-then (Plain OpenBracket ∷ []) after_name name.1 open_bracket.1 close.1 (plain_sound OpenBracket name.1 open_bracket.1 open_bracket.0 open_read) from_params in
    let from_name = Spelled-then (Named name.0 ∷ []) (Plain OpenBracket ∷ after_name) colon.1 name.1 close.1 (word_sound colon.1 name.1 name.0 name_read) from_open in
    let from_colon = Spelled-then (Plain Colon ∷ []) (Named name.0 ∷ Plain OpenBracket ∷ after_name) receiver.1 colon.1 close.1 (plain_sound Colon receiver.1 colon.1 colon.0 colon_read) from_name in
    let from_receiver = Spelled-then (Named receiver.0 ∷ []) (Plain Colon ∷ Named name.0 ∷ Plain OpenBracket ∷ after_name) arrow.1 receiver.1 close.1 (word_sound arrow.1 receiver.1 receiver.0 receiver_read) from_colon in
    let from_arrow = Spelled-then (Plain Arrow ∷ []) (Named receiver.0 ∷ Plain Colon ∷ Named name.0 ∷ Plain OpenBracket ∷ after_name) ts arrow.1 close.1 (plain_sound Arrow ts arrow.1 arrow.0 arrow_read) from_receiver in
    took after_sender (IsSent sender) ts (record { sender = sender; receiver = receiver.0; name = name.0; params = params.0 }, close.1) (m, rest) made from_arrow
    (record { by = refl; schema = record { some = list.1.some; each = list.1.each } }))))))))

-- and one that its signs spell is read
message_complete : (ts rest : List Token) (m : Schema) → Spelled (after_sender m) ts rest → IsSchema m → parse_message m.sender ts ≡ Ok (m, rest)
unfolding parse_message
message_complete ts rest m spelled good =
    let params : List Sign = listed signs_of_formal m.params ++ Plain CloseBracket ∷ [] in
    split_then (Plain Arrow ∷ []) (Named m.receiver ∷ Plain Colon ∷ Named m.name ∷ Plain OpenBracket ∷ params) ts rest spelled (λ at_receiver arrow from_receiver.
    split_then (Named m.receiver ∷ []) (Plain Colon ∷ Named m.name ∷ Plain OpenBracket ∷ params) at_receiver rest from_receiver (λ at_colon receiver from_colon.
    split_then (Plain Colon ∷ []) (Named m.name ∷ Plain OpenBracket ∷ params) at_colon rest from_colon (λ at_name colon from_name.
    split_then (Named m.name ∷ []) (Plain OpenBracket ∷ params) at_name rest from_name (λ at_open name from_open.
    split_then (Plain OpenBracket ∷ []) params at_open rest from_open (λ at_params open_bracket from_params.
    split_then (listed signs_of_formal m.params) (Plain CloseBracket ∷ []) at_params rest from_params (λ at_close list close.
    let no_comma : begins_with Comma at_close ≡ false = begins-plain CloseBracket Comma [] at_close rest close in
    let no_key : begins_with Key at_close ≡ false = begins-plain CloseBracket Key [] at_close rest close in
    let list_read = listed-complete parse_formal signs_of_formal IsFormal Keyless formal_reads formals_repeat at_params at_close m.params list (record { some = good.some; each = good.each }) no_comma no_key in
    rw ((plain_complete Arrow ts at_receiver arrow).1, word_complete at_receiver at_colon m.receiver receiver, (plain_complete Colon at_colon at_name colon).1, word_complete at_name at_open m.name name, (plain_complete OpenBracket at_open at_params open_bracket).1, list_read, (plain_complete CloseBracket at_close rest close).1) refl))))))

-- the signs of a reference after its protocol's name
abbrev pub after_protocol : Reference → List Sign
after_protocol r = Plain OpenParen ∷ (listed signs_of_word r.roles ++ (after_commas signs_of_formal r.params ++ Plain CloseParen ∷ []))

-- a reference to that protocol
pub record Names (protocol : Word) (r : Reference) : Type 0 where
  pub by : r.protocol ≡ protocol
  pub reference : IsReference r

-- a comma and a name, as after a role of a reference
pub roles_repeat : Repeats list_kind.CommaName signs_of_word (λ ts. Unit {0})
roles_repeat =
    record {
      goes = λ w ts rest spelled. ap (has_more list_kind.CommaName) (spelled.2 ∙ ap (λ t. t ∷ spelled.1) spelled.3.1 ∙ ap (λ more. Fixed Comma spelled.3.0 ∷ more) (spelled.4.2 ∙ ap (λ t. t ∷ spelled.4.1) spelled.4.3));
      seam = λ w ts rest spelled. tt;
      shorter = λ w ts rest spelled. Spelled-shorter (Plain Comma) (Named w ∷ []) ts rest spelled;
    }

-- no role comes after the last
roles_end : (params : List Formal) (ts rest : List Token) → Spelled (after_commas signs_of_formal params ++ Plain CloseParen ∷ []) ts rest → has_more list_kind.CommaName ts ≡ false
roles_end [] ts rest spelled = ap (has_more list_kind.CommaName) (spelled.2 ∙ ap (λ t. t ∷ spelled.1) spelled.3.1)
roles_end (f ∷ fs) ts rest spelled = ap (has_more list_kind.CommaName) (spelled.2 ∙ ap (λ t. t ∷ spelled.1) spelled.3.1 ∙ ap (λ more. Fixed Comma spelled.3.0 ∷ more) (spelled.4.2 ∙ ap (λ t. t ∷ spelled.4.1) spelled.4.3))

-- a reference that is read is spelled by its signs
reference_sound : (protocol : Word) (ts rest : List Token) (r : Reference) → parse_reference protocol ts ≡ Ok (r, rest) → Spelled (after_protocol r) ts rest × Names protocol r
unfolding parse_reference
reference_sound protocol ts rest r e =
    bind_then (parse_symbol OpenParen ts) _ (r, rest) e (λ open_paren open_read then_first.
    bind_then (parse_word open_paren.1) _ (r, rest) then_first (λ first first_read then_roles.
    bind_then (with_prefix (first.0 ∷ []) (parse_many list_kind.CommaName parse_word first.1)) _ (r, rest) then_roles (λ roles roles_read then_params.
    bind_then (parse_many list_kind.CommaName parse_word first.1) _ roles roles_read (λ more more_read roles_made.
    bind_then (parse_many list_kind.Comma parse_formal roles.1) _ (r, rest) then_params (λ params params_read then_close.
    bind_then (parse_symbol CloseParen params.1) _ (r, rest) then_close (λ close close_read made.
    let further = many-sound list_kind.CommaName parse_word signs_of_word (λ w. Unit {0}) (λ left. Unit {0}) word_reads first.1 more.1 more.0 more_read in
    let list = took (listed signs_of_word) (λ ws. ws ≢ []) open_paren.1 (first.0 ∷ more.0, more.1) roles roles_made
    (Spelled-then (Named first.0 ∷ []) (after_commas signs_of_word more.0) open_paren.1 first.1 more.1 (word_sound open_paren.1 first.1 first.0 first_read) further.0) (λ is. cc) in
    let formals = many-sound list_kind.Comma parse_formal signs_of_formal IsFormal Keyless formal_reads roles.1 params.1 params.0 params_read in
    let from_params = Spelled-then (after_commas signs_of_formal params.0) (Plain CloseParen ∷ []) roles.1 params.1 close.1 formals.0 (plain_sound CloseParen params.1 close.1 close.0 close_read) in
    let after_roles : List Sign = after_commas signs_of_formal params.0 ++ Plain CloseParen ∷ [] in
    let from_roles = Spelled-then (listed signs_of_word roles.0) after_roles open_paren.1 roles.1 close.1 list.0 from_params in
    let from_open = Spelled-then (Plain OpenParen ∷ []) (listed signs_of_word roles.0 ++ after_roles) ts open_paren.1 close.1 (plain_sound OpenParen ts open_paren.1 open_paren.0 open_read) from_roles in
    took after_protocol (Names protocol) ts (record { protocol = protocol; roles = roles.0; params = params.0 }, close.1) (r, rest) made from_open
    (record { by = refl; reference = record { some = list.1; each = formals.1 } })))))))

-- the roles that signs spell are read
roles_read_again : (roles : List Word) (ts rest : List Token) → roles ≢ [] → Spelled (listed signs_of_word roles) ts rest → has_more list_kind.CommaName rest ≡ false → (first : Word × List Token) × (parse_word ts ≡ Ok first) × (with_prefix (first.0 ∷ []) (parse_many list_kind.CommaName parse_word first.1) ≡ Ok (roles, rest))
roles_read_again [] ts rest some spelled ends = absurd (some refl)
roles_read_again (w ∷ ws) ts rest some spelled ends =
    split_then (Named w ∷ []) (after_commas signs_of_word ws) ts rest spelled (λ mid first further.
    ((w, mid), word_complete ts mid w first, rw (many-complete list_kind.CommaName parse_word signs_of_word (λ v. Unit {0}) (λ left. Unit {0}) word_reads roles_repeat mid rest ws further (λ k d below. tt) ends tt) refl))

-- and a reference that its signs spell is read
reference_complete : (ts rest : List Token) (r : Reference) → Spelled (after_protocol r) ts rest → IsReference r → parse_reference r.protocol ts ≡ Ok (r, rest)
unfolding parse_reference
reference_complete ts rest r spelled good =
    let after_roles : List Sign = after_commas signs_of_formal r.params ++ Plain CloseParen ∷ [] in
    split_then (Plain OpenParen ∷ []) (listed signs_of_word r.roles ++ after_roles) ts rest spelled (λ at_roles open_paren from_roles.
    split_then (listed signs_of_word r.roles) after_roles at_roles rest from_roles (λ at_params roles from_params.
    split_then (after_commas signs_of_formal r.params) (Plain CloseParen ∷ []) at_params rest from_params (λ at_close params close.
    let roles_again = roles_read_again r.roles at_roles at_params good.some roles (roles_end r.params at_params rest from_params) in
    let no_comma : begins_with Comma at_close ≡ false = begins-plain CloseParen Comma [] at_close rest close in
    let no_key : begins_with Key at_close ≡ false = begins-plain CloseParen Key [] at_close rest close in
    let params_again = many-complete list_kind.Comma parse_formal signs_of_formal IsFormal Keyless formal_reads formals_repeat at_params at_close r.params params good.each no_comma no_key in
    rw ((plain_complete OpenParen ts at_roles open_paren).1, roles_again.1, roles_again.2, params_again, (plain_complete CloseParen at_close rest close).1) refl)))

item_found : (name : Word) (ts rest : List Token) (i : Item) (opens : Bool)
    → ◌≡◌ {A = ParseResult Item} (cond opens (◌>>=◌ {B = Item × List Token} (parse_reference name ts) (λ r. Ok (item.Reference r.0, r.1))) (◌>>=◌ {B = Item × List Token} (parse_message name ts) (λ m. Ok (item.Message m.0, m.1)))) (Ok (i, rest))
    → (before : List Token) → Spelled (Named name ∷ []) before ts → Spelled (signs_of_item i) before rest × IsItem i
item_found name ts rest i true e before named =
    bind_then (parse_reference name ts) _ (i, rest) e (λ r read made.
    let sound = reference_sound name ts r.1 r.0 read in
    took signs_of_item IsItem before (item.Reference r.0, r.1) (i, rest) made
    (Spelled-then (Named r.0.protocol ∷ []) (after_protocol r.0) before ts r.1 (rw sound.1.by named) sound.0) sound.1.reference)
item_found name ts rest i false e before named =
    bind_then (parse_message name ts) _ (i, rest) e (λ m read made.
    let sound = message_sound name ts m.1 m.0 read in
    took signs_of_item IsItem before (item.Message m.0, m.1) (i, rest) made
    (Spelled-then (Named m.0.sender ∷ []) (after_sender m.0) before ts m.1 (rw sound.1.by named) sound.0) sound.1.schema)

-- an item that is read is spelled by its signs
item_sound : (ts rest : List Token) (i : Item) → parse_item ts ≡ Ok (i, rest) → Spelled (signs_of_item i) ts rest × IsItem i
unfolding parse_item
item_sound ts rest i e =
    bind_then (parse_word ts) _ (i, rest) e (λ name read then_item.
    item_found name.0 name.1 rest i (begins_with OpenParen name.1) then_item ts (word_sound ts name.1 name.0 read))

-- and one that its signs spell is read
item_complete : (ts rest : List Token) (i : Item) → Spelled (signs_of_item i) ts rest → IsItem i → parse_item ts ≡ Ok (i, rest)
unfolding parse_item
item_complete ts rest (item.Message m) spelled good =
    split_then (Named m.sender ∷ []) (after_sender m) ts rest spelled (λ mid named following.
    let opens : begins_with OpenParen mid ≡ false = ap (begins_with OpenParen) (following.2 ∙ ap (λ t. t ∷ following.1) following.3.1) in
    rw (word_complete ts mid m.sender named, opens, message_complete mid rest m following good) refl)
item_complete ts rest (item.Reference r) spelled good =
    split_then (Named r.protocol ∷ []) (after_protocol r) ts rest spelled (λ mid named following.
    let opens : begins_with OpenParen mid ≡ true = ap (begins_with OpenParen) (following.2 ∙ ap (λ t. t ∷ following.1) following.3.1) in
    rw (word_complete ts mid r.protocol named, opens, reference_complete mid rest r following good) refl)

pub item_reads : Reads parse_item signs_of_item IsItem (λ ts. Unit {0})
item_reads = record { sound = item_sound; complete = λ ts rest i spelled good may. item_complete ts rest i spelled good }

-- an item begins with a name and takes tokens
item_goes : (i : Item) (ts rest : List Token) → Spelled (signs_of_item i) ts rest → (begins_with_name ts ≡ true) × (length rest < length ts)
item_goes (item.Message m) ts rest spelled = (named_begins m.sender (after_sender m) ts rest spelled, Spelled-shorter (Named m.sender) (after_sender m) ts rest spelled)
item_goes (item.Reference r) ts rest spelled = (named_begins r.protocol (after_protocol r) ts rest spelled, Spelled-shorter (Named r.protocol) (after_protocol r) ts rest spelled)

pub items_repeat : Repeats list_kind.Name signs_of_item (λ ts. Unit {0})
items_repeat =
    record {
      goes = λ i ts rest spelled. (item_goes i ts rest spelled).0;
      seam = λ i ts rest spelled. tt;
      shorter = λ i ts rest spelled. (item_goes i ts rest spelled).1;
    }

-- an item begins with a name
pub items_begin : (i : Item) (t : Symbol) (ts rest : List Token) → Spelled (signs_of_item i) ts rest → begins_with t ts ≡ false
items_begin (item.Message m) t ts rest spelled = begins-named m.sender t (after_sender m) ts rest spelled
items_begin (item.Reference r) t ts rest spelled = begins-named r.protocol t (after_protocol r) ts rest spelled
