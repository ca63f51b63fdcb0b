-- What was read of a reference is read again, although its roles end by a test of two tokens.
use Rattle.std.proofs.Common.{◌≡◌, ℕ, ◌<◌, true, false, List, [], ◌∷◌, ◌++◌, length, Ok, Err, None, inl, inr, refl, sym, ap, subst, ◌∙◌, append_assoc, arith}
use Rattle.std.specs.Prelude.{IsTrue}
use Rattle.std.specs.List.{All}
use Rattle.std.proofs.lemmas.Bool.{cases_Bool, and_parts}
use Rattle.std.proofs.lemmas.List.{append_cancel_right}
use Rattle.std.proofs.lemmas.List.Elements.{All-nil, All-cons}
use Rattle.bspl_types.specs.Name.{is_name}
use Rattle.bspl_parser.specs.declared.document.Adorn.TheVariants as adorn
use Rattle.bspl_parser.specs.declared.document.Formal.{Formal}
use Rattle.bspl_parser.specs.declared.parse_error.ErrorPosition.{ErrorPosition}
use Rattle.bspl_parser.specs.declared.list_kind.ListKind.TheVariants as list_kind
use Rattle.bspl_parser.specs.declared.symbol.Symbol.TheVariants.{Comma, OpenParen, CloseParen, In}
use Rattle.bspl_parser.specs.declared.token.Token.{Token}
use Rattle.bspl_parser.specs.declared.token.Token.TheVariants.{Name, Fixed}
use Rattle.bspl_parser.specs.declared.word.Word.{Word}
use Rattle.bspl_parser.specs.inner.ParseResult.{ParseResult, ◌>>=◌}
use Rattle.bspl_parser.specs.Sign.{Named, Plain, after_commas}
use Rattle.bspl_parser.specs.Grammar.{signs_of_word, signs_of_formal}
use Rattle.bspl_parser.specs.Spelling.{IsFormal}
use Rattle.bspl_parser.specs.inner.SymbolTable.{same_symbol}
use Rattle.bspl_parser.specs.inner.TokenParsers.{begins_with, parse_word, parse_symbol}
use Rattle.bspl_parser.specs.inner.GrammarParsers.{has_more, parse_separator, with_prefix, parse_many, parse_formal, parse_reference}
use Rattle.bspl_parser.proofs.Spelled.{Spelled, Spelled-then, Spelled-shorter, bind_then, ok_is}
use Rattle.bspl_parser.proofs.Primitives.{word_reads, plain_sound, plain_complete}
use Rattle.bspl_parser.proofs.Formals.{Keyless, formal_reads}
use Rattle.bspl_parser.proofs.SymbolLemmas.{same_symbol-true}
use Rattle.bspl_parser.proofs.Lists.{separator_sound, many-sound, many-complete}
use Rattle.bspl_parser.proofs.Listed.{formals_repeat}
use Rattle.bspl_parser.proofs.Items.{roles_repeat}
use Rattle.bspl_parser.proofs.PrefixStable.{PrefixStable, StableSuccess, StableFailure, Alike, alike_after, then_stable, nothing_stable}
use Rattle.bspl_parser.proofs.PrefixStableTokens.{word_stable, symbol_stable}
use Rattle.bspl_parser.proofs.PrefixStableLists.{step, ManySuccess, many_success}
use Rattle.bspl_parser.proofs.PrefixStablePhrases.{step_shortens, more_formals, AnyWord, AnyTokens}

-- whether a role comes depends on two tokens
two_alike : (a b : Token) (r s : List Token) → has_more list_kind.CommaName (a ∷ b ∷ r) ≡ has_more list_kind.CommaName (a ∷ b ∷ s)
two_alike (Name v) (Name w) r s = refl
two_alike (Name v) (Fixed t p) r s = refl
two_alike (Fixed q o) (Name w) r s = refl
two_alike (Fixed q o) (Fixed t p) r s = refl

-- where a comma and a name come a role is read
pub role_comes : (ts : List Token) (f : ErrorPosition) → has_more list_kind.CommaName ts ≡ true → step list_kind.CommaName parse_word ts ≡ Err f → ⊥
unfolding parse_symbol parse_word
role_comes [] f goes e = cc
role_comes (Name v ∷ ts) f goes e = cc
role_comes (Fixed q o ∷ []) f goes e = (let name = (and_parts (same_symbol q Comma) false goes).1 in cc)
role_comes (Fixed q o ∷ Fixed t p ∷ ts) f goes e = (let name = (and_parts (same_symbol q Comma) false goes).1 in cc)
role_comes (Fixed q o ∷ Name w ∷ ts) f goes e =
    (let same = (and_parts (same_symbol q Comma) true goes).0 in
    let read : step list_kind.CommaName parse_word (Fixed q o ∷ Name w ∷ ts) ≡ Ok (w, ts) = rw same refl in
    cc)

pub roles_shorten : (ts rest : List Token) (w : Word) → step list_kind.CommaName parse_word ts ≡ Ok (w, rest) → length rest < length ts
roles_shorten = step_shortens list_kind.CommaName parse_word signs_of_word AnyWord AnyTokens word_reads roles_repeat

-- a role that was read is read again
pub roles_keep : (ts rest : List Token) (w : Word) (used : List Token) → step list_kind.CommaName parse_word ts ≡ Ok (w, rest) → ts ≡ used ++ rest → has_more list_kind.CommaName ts ≡ true → (other : List Token) → has_more list_kind.CommaName (used ++ other) ≡ true
roles_keep ts rest w used read parts goes other =
    bind_then (parse_separator list_kind.CommaName ts) _ (w, rest) read (λ after separator_read word_read.
    let comma = separator_sound list_kind.CommaName ts after separator_read in
    let name = (word_reads.sound after rest w word_read).0 in
    let prefix : ts ≡ (Fixed Comma comma.3.0 ∷ Name w ∷ []) ++ rest = comma.2 ∙ ap (λ t. t ∷ comma.1) comma.3.1 ∙ ap (λ m. Fixed Comma comma.3.0 ∷ m) (comma.4 ∙ name.2 ∙ ap (λ t. t ∷ name.1) name.3 ∙ ap (λ m. Name w ∷ m) name.4) in
    let same : used ≡ Fixed Comma comma.3.0 ∷ Name w ∷ [] = append_cancel_right used (Fixed Comma comma.3.0 ∷ Name w ∷ []) rest (sym parts ∙ prefix) in
    ap (λ u. has_more list_kind.CommaName (u ++ other)) same)

abbrev pub RolesSuccess : List Token → List Token → List Word → Type 0
RolesSuccess ts rest ws = ManySuccess list_kind.CommaName parse_word word_stable roles_shorten roles_keep ts rest ws

pub roles_success : (ts rest : List Token) (ws : List Word) → parse_many list_kind.CommaName parse_word ts ≡ Ok (ws, rest) → RolesSuccess ts rest ws
roles_success ts rest ws e = many_success list_kind.CommaName parse_word word_stable roles_shorten roles_keep (length ts) ts rest ws (omega arith) e

-- the parameters of a reference, and its end
abbrev pub parse_params : {X : Type 0} → (List Formal → X) → List Token → ParseResult X
parse_params make ts = parse_many list_kind.Comma parse_formal ts >>= λ params. parse_symbol CloseParen params.1 >>= λ close. Ok (make params.0, close.1)

pub params_stable : {X : Type 0} (make : List Formal → X) → PrefixStable (parse_params make)
params_stable make =
    then_stable (parse_many list_kind.Comma parse_formal) (λ params ts. parse_symbol CloseParen ts >>= λ close. Ok (make params, close.1)) more_formals (λ params.
    then_stable (parse_symbol CloseParen) (λ o ts. Ok (make params, ts)) (symbol_stable CloseParen) (λ close. nothing_stable (make params)))

-- what they begin with
params_begin : {X : Type 0} (make : List Formal → X) (ts rest : List Token) (x : X) → parse_params make ts ≡ Ok (x, rest) → (params : List Formal) × Spelled (after_commas signs_of_formal params ++ Plain CloseParen ∷ []) ts rest
params_begin make ts rest x e =
    bind_then (parse_many list_kind.Comma parse_formal ts) _ (x, rest) e (λ params params_read then_close.
    bind_then (parse_symbol CloseParen params.1) _ (x, rest) then_close (λ close close_read made.
    let spelled = many-sound list_kind.Comma parse_formal signs_of_formal IsFormal Keyless formal_reads ts params.1 params.0 params_read in
    let end = plain_sound CloseParen params.1 close.1 close.0 close_read in
    let left : close.1 ≡ rest = ap (λ p. p.1) (ok_is (make params.0, close.1) (x, rest) made) in
    (params.0, subst (Spelled (after_commas signs_of_formal params.0 ++ Plain CloseParen ∷ []) ts) left (Spelled-then (after_commas signs_of_formal params.0) (Plain CloseParen ∷ []) ts params.1 close.1 spelled.0 end))))

-- a name, and a parameter
pub some_name : IsTrue (is_name (120 ∷ []))
unfolding is_name
some_name = refl

abbrev pub some_word : Word
some_word = record { text = 120 ∷ []; offset = 0; named = some_name }

abbrev pub some_formal : Formal
some_formal = record { adorn = adorn.In; offset = 0; name = some_word; key = None }

-- after a comma parameters may follow
params_go_on : {X : Type 0} (make : List Formal → X) (o : ℕ) → parse_params make (Fixed Comma o ∷ Fixed In 0 ∷ Name some_word ∷ Fixed CloseParen 0 ∷ []) ≡ Ok (make (some_formal ∷ []), [])
params_go_on make o =
    let close : List Token = Fixed CloseParen 0 ∷ [] in
    let ts : List Token = Fixed Comma o ∷ Fixed In 0 ∷ Name some_word ∷ close in
    let spelled : Spelled (after_commas signs_of_formal (some_formal ∷ [])) ts close = (Fixed Comma o, Fixed In 0 ∷ Name some_word ∷ close, refl, (o, refl), (Fixed In 0, Name some_word ∷ close, refl, refl, (Name some_word, close, refl, refl, refl))) in
    let good : All IsFormal (some_formal ∷ []) = All-cons IsFormal some_formal [] (λ is. refl) (All-nil IsFormal) in
    let params = many-complete list_kind.Comma parse_formal signs_of_formal IsFormal Keyless formal_reads formals_repeat ts close (some_formal ∷ []) spelled good refl refl in
    let end = plain_complete CloseParen close [] (Fixed CloseParen 0, [], refl, (0, refl), refl) in
    rw (params, end.1) refl

-- parameters after the roles begin with no role
goes_same : {X : Type 0} (make : List Formal → X) (mid rest : List Token) (x : X) (used : List Token) → parse_params make mid ≡ Ok (x, rest) → mid ≡ used ++ rest → (other : List Token) → has_more list_kind.CommaName mid ≡ has_more list_kind.CommaName (used ++ other)
goes_same make mid rest x used read parts other =
    let begin = params_begin make mid rest x read in
    by_params begin.0 used begin.1 parts
  where
    by_params : (params : List Formal) (used : List Token) → Spelled (after_commas signs_of_formal params ++ Plain CloseParen ∷ []) mid rest → mid ≡ used ++ rest → has_more list_kind.CommaName mid ≡ has_more list_kind.CommaName (used ++ other)
    by_params params (a ∷ b ∷ u) spelled parts = ap (has_more list_kind.CommaName) parts ∙ two_alike a b (u ++ rest) (u ++ other)
    by_params [] [] spelled parts = absurd (let shorter = Spelled-shorter (Plain CloseParen) [] mid rest spelled in let len = ap length parts in omega arith)
    by_params [] (a ∷ []) spelled parts =
        let first : a ≡ Fixed CloseParen spelled.3.0 = (let prefix = sym parts ∙ spelled.2 in let same : a ≡ spelled.0 = cc in same ∙ spelled.3.1) in
        ap (has_more list_kind.CommaName) (parts ∙ ap (λ t. t ∷ rest) first) ∙ ap (λ t. has_more list_kind.CommaName (t ∷ other)) (sym first)
    by_params (f ∷ fs) [] spelled parts = absurd (let shorter = Spelled-shorter (Plain Comma) (signs_of_formal f ++ after_commas signs_of_formal fs ++ Plain CloseParen ∷ []) mid rest spelled in let len = ap length parts in omega arith)
    by_params (f ∷ fs) (a ∷ []) spelled parts =
        let len = ap length parts in
        let first = ap length spelled.2 in
        let second = ap length spelled.4.2 in
        let third = Spelled-shorter (Named f.name) _ spelled.4.1 rest spelled.4.4 in
        absurd (omega arith)

-- and so do those with an error
pub goes_failure : {X : Type 0} (make : List Formal → X) (mid : List Token) (f : ErrorPosition) (failure : StableFailure (parse_params make) mid f) → (t : Token) (after : List Token) → failure.left ≡ t ∷ after → (more : List Token) → has_more list_kind.CommaName mid ≡ has_more list_kind.CommaName (failure.prefix ++ t ∷ more)
goes_failure make mid f failure t after is more = by_prefix failure.prefix (failure.parts ∙ ap (λ l. failure.prefix ++ l) is) (failure.again t after is)
  where
    first_is : (t : Token) → parse_params make (t ∷ Fixed In 0 ∷ Name some_word ∷ Fixed CloseParen 0 ∷ []) ≡ Err f → begins_with Comma (t ∷ after) ≡ false
    first_is (Name w) again = refl
    first_is (Fixed s o) again =
        elim (cases_Bool (same_symbol s Comma)) [
          | inl same ↦ absurd (let read = params_go_on make o in let comma : s ≡ Comma = same_symbol-true s Comma same in let wrong : parse_params make (Fixed Comma o ∷ Fixed In 0 ∷ Name some_word ∷ Fixed CloseParen 0 ∷ []) ≡ Err f = subst (λ s. parse_params make (Fixed s o ∷ Fixed In 0 ∷ Name some_word ∷ Fixed CloseParen 0 ∷ []) ≡ Err f) comma again in cc)
          | inr other ↦ other
        ]

    no_role : (t : Token) (r s : List Token) → begins_with Comma (t ∷ r) ≡ false → has_more list_kind.CommaName (t ∷ r) ≡ has_more list_kind.CommaName (t ∷ s)
    no_role (Name w) r s other = refl
    no_role (Fixed q o) r s other = rw other refl

    by_prefix : (prefix : List Token) → mid ≡ prefix ++ t ∷ after → ((more : List Token) → parse_params make (prefix ++ t ∷ more) ≡ Err f) → has_more list_kind.CommaName mid ≡ has_more list_kind.CommaName (prefix ++ t ∷ more)
    by_prefix [] parts again = ap (has_more list_kind.CommaName) parts ∙ no_role t after more (first_is t (again (Fixed In 0 ∷ Name some_word ∷ Fixed CloseParen 0 ∷ [])))
    by_prefix (a ∷ []) parts again = ap (has_more list_kind.CommaName) parts ∙ two_alike a t after more
    by_prefix (a ∷ b ∷ u) parts again = ap (has_more list_kind.CommaName) parts ∙ two_alike a b (u ++ t ∷ after) (u ++ t ∷ more)

-- the roles after the first, and the parameters
abbrev pub roles_on : {X : Type 0} → Word → (List Word → List Formal → X) → List Token → ParseResult X
roles_on first make ts = with_prefix (first ∷ []) (parse_many list_kind.CommaName parse_word ts) >>= λ roles. parse_params (make roles.0) roles.1

module _ {X : Type 0} (first : Word) (make : List Word → List Formal → X) where
  roles_on_success : (ts rest : List Token) (x : X) (roles : ParseResult (List Word)) → parse_many list_kind.CommaName parse_word ts ≡ roles → (with_prefix (first ∷ []) roles >>= λ roles. parse_params (make roles.0) roles.1) ≡ Ok (x, rest) → StableSuccess (roles_on first make) ts rest x
  roles_on_success ts rest x (Err f) read e = absurd cc
  roles_on_success ts rest x (Ok ws) read e =
      let a = roles_success ts ws.1 ws.0 read in
      let b = (params_stable (make (first ∷ ws.0))).success ws.1 rest x e in
      record {
        used = a.used ++ b.used;
        parts = a.parts ∙ ap (λ m. a.used ++ m) b.parts ∙ sym (append_assoc a.used b.used rest);
        again = λ other alike.
            let list : (a.used ++ b.used) ++ other ≡ a.used ++ (b.used ++ other) = append_assoc a.used b.used other in
            let mid : Alike ws.1 (b.used ++ other) = subst (λ m. Alike m (b.used ++ other)) (sym b.parts) (alike_after b.used rest other alike) in
            let goes = goes_same (make (first ∷ ws.0)) ws.1 rest x b.used e b.parts other in
            let roles : parse_many list_kind.CommaName parse_word (a.used ++ (b.used ++ other)) ≡ Ok (ws.0, b.used ++ other) = a.again (b.used ++ other) mid goes (length (a.used ++ (b.used ++ other))) (omega arith) in
            ap (roles_on first make) list ∙ rw roles (b.again other alike);
      }

  pub roles_on_stable : PrefixStable (roles_on first make)
  roles_on_stable =
      record {
        success = λ ts rest x e. roles_on_success ts rest x (parse_many list_kind.CommaName parse_word ts) refl e;
      }

pub reference_stable : (protocol : Word) → PrefixStable (parse_reference protocol)
unfolding parse_reference
reference_stable protocol =
    then_stable (parse_symbol OpenParen) _ (symbol_stable OpenParen) (λ open_paren.
    then_stable parse_word (λ first. roles_on first (λ roles params. record { protocol = protocol; roles = roles; params = params })) word_stable (λ first.
    roles_on_stable first (λ roles params. record { protocol = protocol; roles = roles; params = params })))
