-- The tokens before an error begin a valid item.
use Rattle.std.proofs.Common.{◌≡◌, ℕ, zero, suc, true, List, [], ◌∷◌, ◌++◌, length, Ok, Err, inl, inr, refl, sym, ap, subst, ◌∙◌, append_assoc, arith}
use Rattle.std.specs.List.{All}
use Rattle.std.proofs.lemmas.Bool.{cases_Bool}
use Rattle.std.proofs.lemmas.List.Elements.{All-nil}
use Rattle.bspl_parser.specs.declared.document.Formal.{Formal}
use Rattle.bspl_parser.specs.declared.document.Reference.{Reference}
use Rattle.bspl_parser.specs.declared.document.Item.{Item}
use Rattle.bspl_parser.specs.declared.document.Item.TheVariants as item
use Rattle.bspl_parser.specs.declared.parse_error.ErrorPosition.{ErrorPosition}
use Rattle.bspl_parser.specs.declared.list_kind.ListKind.TheVariants as list_kind
use Rattle.bspl_parser.specs.declared.symbol.Symbol.TheVariants.{Arrow, Colon, OpenBracket, CloseBracket, OpenParen, CloseParen}
use Rattle.bspl_parser.specs.declared.token.Token.{Token}
use Rattle.bspl_parser.specs.declared.word.Word.{Word}
use Rattle.bspl_parser.specs.Grammar.{signs_of_word, signs_of_formal, signs_of_item}
use Rattle.bspl_parser.specs.inner.ParseResult.{ParseResult, ◌>>=◌}
use Rattle.bspl_parser.specs.Sign.{Sign, Plain, after_commas}
use Rattle.bspl_parser.specs.Spelling.{IsFormal, IsSchema, IsReference, IsItem}
use Rattle.bspl_parser.specs.inner.TokenParsers.{begins_with, parse_word, parse_symbol}
use Rattle.bspl_parser.specs.inner.GrammarParsers.{has_more, with_prefix, parse_many_within, parse_many, parse_formal, parse_message, parse_reference, parse_item}
use Rattle.bspl_parser.proofs.Spelled.{Spelled, Spelled-then}
use Rattle.bspl_parser.proofs.Primitives.{word_reads}
use Rattle.bspl_parser.proofs.Formals.{Keyless, formal_reads}
use Rattle.bspl_parser.proofs.Lists.{many-sound}
use Rattle.bspl_parser.proofs.Items.{after_sender, after_protocol}
use Rattle.bspl_parser.proofs.PrefixStable.{Alike, alike_first, alike_after}
use Rattle.bspl_parser.proofs.PrefixStableLists.{step, turned}
use Rattle.bspl_parser.proofs.PrefixStablePhrases.{more_formals, AnyWord, AnyTokens}
use Rattle.bspl_parser.proofs.PrefixStableReferences.{some_word, some_formal, role_comes, roles_success, parse_params, goes_failure, roles_on}
use Rattle.bspl_parser.proofs.LoopReading.{no_turn}
use Rattle.bspl_parser.proofs.ErrorPosition.{FailsViably, ViableFailure, Spelled-prefix, then_viable, viable_as, either_viable}
use Rattle.bspl_parser.proofs.ErrorPositionPhrases.{Any, plain_sign, no_sign, begins_prefix, done_viable, word_then, symbol_then, formals_then, more_formals_viable, one_formal}

message_viable : (sender : Word) → FailsViably (parse_message sender) after_sender IsSchema
unfolding parse_message
message_viable sender =
    viable_as (parse_message sender) _ _ after_sender IsSchema
    (λ (v : Unit {0} × (Word × (Unit {0} × (Word × (Unit {0} × (List Formal × (Unit {0} × Unit {0}))))))). record { sender = sender; receiver = v.1.0; name = v.1.1.1.0; params = v.1.1.1.1.1.0 })
    (λ v. refl) (λ v good. record { some = good.1.1.1.1.1.0.some; each = good.1.1.1.1.1.0.each })
    (symbol_then _ _ (some_word, (tt, (some_word, (tt, (some_formal ∷ [], (tt, tt)))))) (tt, (tt, (tt, (tt, (one_formal, (tt, tt)))))) Arrow _ (λ arrow.
    word_then _ _ (tt, (some_word, (tt, (some_formal ∷ [], (tt, tt))))) (tt, (tt, (tt, (one_formal, (tt, tt))))) _ (λ receiver.
    symbol_then _ _ (some_word, (tt, (some_formal ∷ [], (tt, tt)))) (tt, (tt, (one_formal, (tt, tt)))) Colon _ (λ colon.
    word_then _ _ (tt, (some_formal ∷ [], (tt, tt))) (tt, (one_formal, (tt, tt))) _ (λ name.
    symbol_then _ _ (some_formal ∷ [], (tt, tt)) (one_formal, (tt, tt)) OpenBracket _ (λ open_bracket.
    formals_then _ _ (tt, tt) (tt, tt) _ (λ params.
    symbol_then no_sign Any tt tt CloseBracket _ (λ close.
    done_viable (record { sender = sender; receiver = receiver; name = name; params = params })))))))))

-- the parameters of a reference
params_viable : {X : Type 0} (make : List Formal → X) → FailsViably (parse_params make) (λ (fs : List Formal). after_commas signs_of_formal fs ++ Plain CloseParen ∷ []) (All IsFormal)
params_viable make =
    viable_as (parse_params make) (λ (v : List Formal × (Unit {0} × Unit {0})). after_commas signs_of_formal v.0 ++ (plain_sign CloseParen v.1.0 ++ no_sign v.1.1)) (λ v. All IsFormal v.0 × (Any v.1.0 × Any v.1.1)) (λ fs. after_commas signs_of_formal fs ++ Plain CloseParen ∷ []) (All IsFormal) (λ v. v.0) (λ v. refl) (λ v good. good.0)
    (then_viable (parse_many list_kind.Comma parse_formal) (λ params ts. parse_symbol CloseParen ts >>= λ close. Ok (make params, close.1)) (after_commas signs_of_formal) (All IsFormal) (λ (v : Unit {0} × Unit {0}). plain_sign CloseParen v.0 ++ no_sign v.1) (λ v. Any v.0 × Any v.1)
    more_formals (λ fs. fs) (λ ts rest fs e. many-sound list_kind.Comma parse_formal signs_of_formal IsFormal Keyless formal_reads ts rest fs e) more_formals_viable
    (λ params. symbol_then no_sign Any tt tt CloseParen (λ o ts. Ok (make params, ts)) (λ close. done_viable (make params))) (tt, tt) (tt, tt))

-- reading roles never stops
roles_never : (n : ℕ) (ts : List Token) (f : ErrorPosition) → parse_many_within list_kind.CommaName parse_word n ts ≡ Err f → ⊥
unfolding parse_many_within
roles_never zero ts f e = cc
roles_never (suc n) ts f e =
    elim (cases_Bool (has_more list_kind.CommaName ts)) [
      | inl goes ↦ by_step n ts f goes (roles_never n) (step list_kind.CommaName parse_word ts) refl (sym (turned list_kind.CommaName parse_word n ts goes) ∙ e)
      | inr ends ↦ (let none = no_turn list_kind.CommaName parse_word (suc n) ts ends in cc)
    ]
  where
    by_more : (w : Word) (f : ErrorPosition) (more : ParseResult (List Word)) → ((g : ErrorPosition) → more ≡ Err g → ⊥) → with_prefix (w ∷ []) more ≡ Err f → ⊥
    by_more w f (Ok ws) never e = cc
    by_more w f (Err g) never e = never g refl

    by_step : (n : ℕ) (ts : List Token) (f : ErrorPosition) → has_more list_kind.CommaName ts ≡ true → ((ts : List Token) (f : ErrorPosition) → parse_many_within list_kind.CommaName parse_word n ts ≡ Err f → ⊥) → (first : ParseResult Word) → step list_kind.CommaName parse_word ts ≡ first → (first >>= λ x. with_prefix (x.0 ∷ []) (parse_many_within list_kind.CommaName parse_word n x.1)) ≡ Err f → ⊥
    by_step n ts f goes never (Err g) read e = role_comes ts g goes read
    by_step n ts f goes never (Ok x) read e = by_more x.0 f (parse_many_within list_kind.CommaName parse_word n x.1) (never x.1) e

-- the signs of the roles after the first, and of the parameters
abbrev roles_signs : List Word × List Formal → List Sign
roles_signs v = after_commas signs_of_word v.0 ++ (after_commas signs_of_formal v.1 ++ Plain CloseParen ∷ [])

roles_by : {X : Type 0} (first : Word) (make : List Word → List Formal → X) (ts : List Token) (f : ErrorPosition) (roles : ParseResult (List Word)) → parse_many list_kind.CommaName parse_word ts ≡ roles → (with_prefix (first ∷ []) roles >>= λ roles. parse_params (make roles.0) roles.1) ≡ Err f → ViableFailure (roles_on first make) roles_signs (λ v. All IsFormal v.1) ts f
roles_by first make ts f (Err g) read e = absurd (roles_never (length ts) ts g read)
roles_by first make ts f (Ok ws) read e =
    let a = roles_success ts ws.1 ws.0 read in
    let known = (many-sound list_kind.CommaName parse_word signs_of_word AnyWord AnyTokens word_reads ts ws.1 ws.0 read).0 in
    let c = params_viable (make (first ∷ ws.0)) ws.1 f e in
    let b = c.failure in
    record {
      failure = record {
        prefix = a.used ++ b.prefix;
        left = b.left;
        parts = a.parts ∙ ap (λ m. a.used ++ m) b.parts ∙ sym (append_assoc a.used b.prefix b.left);
        position = b.position;
        again = λ t after is more.
            let list : (a.used ++ b.prefix) ++ t ∷ more ≡ a.used ++ (b.prefix ++ t ∷ more) = append_assoc a.used b.prefix (t ∷ more) in
            let mid : Alike ws.1 (b.prefix ++ t ∷ more) = subst (λ m. Alike m (b.prefix ++ t ∷ more)) (sym (b.parts ∙ ap (λ l. b.prefix ++ l) is)) (alike_after b.prefix (t ∷ after) (t ∷ more) (alike_first t after more)) in
            let goes = goes_failure (make (first ∷ ws.0)) ws.1 f b t after is more in
            let roles : parse_many list_kind.CommaName parse_word (a.used ++ (b.prefix ++ t ∷ more)) ≡ Ok (ws.0, b.prefix ++ t ∷ more) = a.again (b.prefix ++ t ∷ more) mid goes (length (a.used ++ (b.prefix ++ t ∷ more))) (omega arith) in
            ap (roles_on first make) list ∙ rw roles (b.again t after is more);
      };
      value = (ws.0, c.value);
      more = c.more;
      good = c.good;
      spelled = subst (λ x. Spelled (after_commas signs_of_word ws.0 ++ (after_commas signs_of_formal c.value ++ Plain CloseParen ∷ [])) x []) (sym (append_assoc a.used b.prefix c.more))
          (Spelled-then (after_commas signs_of_word ws.0) (after_commas signs_of_formal c.value ++ Plain CloseParen ∷ []) (a.used ++ (b.prefix ++ c.more)) (b.prefix ++ c.more) [] (Spelled-prefix (after_commas signs_of_word ws.0) ts ws.1 a.used known a.parts (b.prefix ++ c.more)) c.spelled);
    }

roles_viable : {X : Type 0} (first : Word) (make : List Word → List Formal → X) → FailsViably (roles_on first make) roles_signs (λ v. All IsFormal v.1)
roles_viable first make ts f e = roles_by first make ts f (parse_many list_kind.CommaName parse_word ts) refl e

reference_viable : (protocol : Word) → FailsViably (parse_reference protocol) after_protocol IsReference
unfolding parse_reference
reference_viable protocol =
    let make : List Word → List Formal → Reference = λ roles params. record { protocol = protocol; roles = roles; params = params } in
    viable_as (parse_reference protocol) (λ (v : Unit {0} × (Word × (List Word × List Formal))). plain_sign OpenParen v.0 ++ (signs_of_word v.1.0 ++ roles_signs v.1.1)) (λ v. Any v.0 × (Any v.1.0 × All IsFormal v.1.1.1)) after_protocol IsReference
    (λ v. record { protocol = protocol; roles = v.1.0 ∷ v.1.1.0; params = v.1.1.1 }) (λ v. refl) (λ v good. record { some = λ is. cc; each = good.1.1 })
    (symbol_then (λ (v : Word × (List Word × List Formal)). signs_of_word v.0 ++ roles_signs v.1) (λ v. Any v.0 × All IsFormal v.1.1) (some_word, ([], [])) (tt, All-nil IsFormal) OpenParen _ (λ open_paren.
    word_then roles_signs (λ v. All IsFormal v.1) ([], []) (All-nil IsFormal) (λ first. roles_on first make) (λ first. roles_viable first make)))

-- the signs of an item after its first name
abbrev after_first : Item → List Sign
after_first (item.Message m) = after_sender m
after_first (item.Reference r) = after_protocol r

abbrev named_item : Word × Item → Item
named_item (w, item.Message m) = item.Message (record m { sender = w })
named_item (w, item.Reference r) = item.Reference (record r { protocol = w })

named_signs : (v : Word × Item) → signs_of_word v.0 ++ after_first v.1 ≡ signs_of_item (named_item v)
named_signs (w, item.Message m) = refl
named_signs (w, item.Reference r) = refl

named_good : (v : Word × Item) → Any v.0 × IsItem v.1 → IsItem (named_item v)
named_good (w, item.Message m) good = record { some = good.1.some; each = good.1.each }
named_good (w, item.Reference r) good = record { some = good.1.some; each = good.1.each }

-- a value that is made of another
made_by : {X Y V : Type 0} (one : List Token → ParseResult X) (make : X → Y) (signs : V → List Sign) (Good : V → Type 0) → FailsViably one signs Good → (ts : List Token) (f : ErrorPosition) (first : ParseResult X) → one ts ≡ first → ◌≡◌ {A = ParseResult Y} (◌>>=◌ {B = Y × List Token} first (λ p. Ok (make p.0, p.1))) (Err f) → ViableFailure {X = Y} (λ ts. one ts >>= λ p. Ok (make p.0, p.1)) signs Good ts f
made_by one make signs Good viable ts f (Ok p) read e = absurd cc
made_by one make signs Good viable ts f (Err g) read e =
    let same : g ≡ f = cc in
    let b = viable ts f (read ∙ ap (λ (h : ErrorPosition). Err h) same) in
    let a = b.failure in
    record {
      failure = record { prefix = a.prefix; left = a.left; parts = a.parts; position = a.position; again = λ t after is more. rw (a.again t after is more) refl };
      value = b.value;
      more = b.more;
      good = b.good;
      spelled = b.spelled;
    }

pub made_viable : {X Y V : Type 0} (one : List Token → ParseResult X) (make : X → Y) (signs : V → List Sign) (Good : V → Type 0) → FailsViably one signs Good → FailsViably {X = Y} (λ ts. one ts >>= λ p. Ok (make p.0, p.1)) signs Good
made_viable one make signs Good viable ts f e = made_by one make signs Good viable ts f (one ts) refl e

some_item : Item
some_item = item.Reference (record { protocol = some_word; roles = some_word ∷ []; params = [] })

some_item_good : IsItem some_item
unfolding some_item
some_item_good = record { some = λ is. cc; each = All-nil IsFormal }

pub item_viable : FailsViably parse_item signs_of_item IsItem
unfolding parse_item
item_viable =
    viable_as parse_item (λ (v : Word × Item). signs_of_word v.0 ++ after_first v.1) (λ v. Any v.0 × IsItem v.1) signs_of_item IsItem named_item named_signs named_good
    (word_then after_first IsItem some_item some_item_good _ (λ name.
    either_viable (begins_with OpenParen) (λ ts. parse_reference name ts >>= λ r. Ok (item.Reference r.0, r.1)) (λ ts. parse_message name ts >>= λ m. Ok (item.Message m.0, m.1)) after_first IsItem (begins_prefix OpenParen)
    (viable_as (λ ts. parse_reference name ts >>= λ r. Ok (item.Reference r.0, r.1)) after_protocol IsReference after_first IsItem (λ r. item.Reference r) (λ r. refl) (λ r good. good) (made_viable (parse_reference name) (λ r. item.Reference r) after_protocol IsReference (reference_viable name)))
    (viable_as (λ ts. parse_message name ts >>= λ m. Ok (item.Message m.0, m.1)) after_sender IsSchema after_first IsItem (λ m. item.Message m) (λ m. refl) (λ m good. good) (made_viable (parse_message name) (λ m. item.Message m) after_sender IsSchema (message_viable name)))))
