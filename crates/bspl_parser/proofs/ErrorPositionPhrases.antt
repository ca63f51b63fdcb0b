-- The tokens before an error begin a valid parameter or list.
use Rattle.std.proofs.Common.{◌≡◌, ℕ, Bool, true, false, ◌&&◌, cond, List, [], ◌∷◌, ◌++◌, Option, Some, None, Ok, Err, refl, sym, subst, ◌∙◌}
use Rattle.std.specs.List.{All}
use Rattle.std.proofs.lemmas.Bool.{and_parts}
use Rattle.std.proofs.lemmas.List.{append-nil}
use Rattle.std.proofs.lemmas.List.Elements.{All-nil, All-cons}
use Rattle.bspl_parser.specs.declared.document.Adorn.{Adorn}
use Rattle.bspl_parser.specs.declared.document.Adorn.TheVariants as adorn
use Rattle.bspl_parser.specs.declared.document.Formal.{Formal}
use Rattle.bspl_parser.specs.declared.parse_error.ErrorPosition.{ErrorPosition}
use Rattle.bspl_parser.specs.declared.list_kind.ListKind.{ListKind}
use Rattle.bspl_parser.specs.declared.list_kind.ListKind.TheVariants as list_kind
use Rattle.bspl_parser.specs.declared.symbol.Symbol.{Symbol}
use Rattle.bspl_parser.specs.declared.symbol.Symbol.TheVariants.{Key, Comma}
use Rattle.bspl_parser.specs.declared.token.Token.{Token}
use Rattle.bspl_parser.specs.declared.token.Token.TheVariants.{Name, Fixed}
use Rattle.bspl_parser.specs.declared.word.Word.{Word}
use Rattle.bspl_parser.specs.Grammar.{signs_of_word, symbol_of, signs_of_formal}
use Rattle.bspl_parser.specs.inner.ParseResult.{ParseResult, ◌>>=◌}
use Rattle.bspl_parser.specs.Sign.{Sign, Located, Plain, OneOf, after_commas, listed}
use Rattle.bspl_parser.specs.Spelling.{IsFormal}
use Rattle.bspl_parser.specs.inner.TokenParsers.{begins_with, parse_word, parse_symbol, parse_either, parse_adorn, takes_key, parse_key}
use Rattle.bspl_parser.specs.inner.GrammarParsers.{parse_separator, with_prefix, parse_many, parse_list, parse_formal}
use Rattle.bspl_parser.proofs.Spelled.{Spelled, Spelled-then, Reads, bind_then}
use Rattle.bspl_parser.proofs.Primitives.{word_sound, word_reads, plain_sound, either_sound, adorn_sound}
use Rattle.bspl_parser.proofs.Formals.{Keyless, formal_reads}
use Rattle.bspl_parser.proofs.Lists.{separator, separator_sound, many-sound}
use Rattle.bspl_parser.proofs.Listed.{GoodList, listed-sound, words_repeat, formals_repeat}
use Rattle.bspl_parser.proofs.PrefixStable.{PrefixStable}
use Rattle.bspl_parser.proofs.PrefixStableTokens.{TakesOne, stops_first, word_takes, symbol_takes, adorn_takes, word_stable, symbol_stable, one_of_stable, adorn_stable, formal_stable}
use Rattle.bspl_parser.proofs.PrefixStableLists.{step, comma_step, comma_notes}
use Rattle.bspl_parser.proofs.PrefixStablePhrases.{step_shortens, more_words, more_formals, words_stable, formals_stable, AnyWord, AnyTokens}
use Rattle.bspl_parser.proofs.PrefixStableReferences.{some_word, some_formal}
use Rattle.bspl_parser.proofs.ErrorPosition.{FailsViably, canon, canon_spelled, then_viable, viable_as, never_viable, either_viable}
use Rattle.bspl_parser.proofs.ErrorPositionLists.{many_viable}

-- of anything
abbrev pub Any : {V : Type 0} → V → Type 0
Any v = Unit {0}

-- one token
pub takes_viable : {X V : Type 0} (one : List Token → ParseResult X) → TakesOne one → (signs : V → List Sign) (Good : V → Type 0) (v : V) → Good v → FailsViably one signs Good
takes_viable one takes signs Good v good ts f e =
    let s = stops_first one takes ts f e in
    record { failure = s.0; value = v; more = canon (signs v); good = good; spelled = subst (λ fr. Spelled (signs v) (fr ++ canon (signs v)) []) (sym s.1) (canon_spelled (signs v)) }

-- the sign of a symbol, and of one of two
abbrev pub plain_sign : Symbol → Unit {0} → List Sign
plain_sign s u = Plain s ∷ []

abbrev pub either_sign : Symbol → Symbol → Unit {0} → List Sign
either_sign a b u = OneOf a b ∷ []

abbrev pub adorn_sign : Adorn × ℕ → List Sign
adorn_sign a = Located (symbol_of a.0) a.1 ∷ []

abbrev pub no_sign : Unit {0} → List Sign
no_sign u = []

-- whether a symbol comes depends on the first token
pub begins_prefix : (s : Symbol) (prefix left : List Token) (t : Token) → begins_with s (prefix ++ t ∷ left) ≡ begins_with s (prefix ++ t ∷ [])
begins_prefix s [] left (Name w) = refl
begins_prefix s [] left (Fixed q o) = refl
begins_prefix s (Name w ∷ prefix) left t = refl
begins_prefix s (Fixed q o ∷ prefix) left t = refl

pub word_viable : FailsViably parse_word signs_of_word Any
word_viable = takes_viable parse_word word_takes signs_of_word Any some_word tt

pub symbol_viable : (s : Symbol) → FailsViably (parse_symbol s) (plain_sign s) Any
symbol_viable s = takes_viable (parse_symbol s) (symbol_takes s) (plain_sign s) Any tt tt

pub one_of_viable : (a b : Symbol) → FailsViably (parse_either a b) (either_sign a b) Any
one_of_viable a b =
    either_viable (begins_with a) (parse_symbol a) (parse_symbol b) (either_sign a b) Any (begins_prefix a)
    (takes_viable (parse_symbol a) (symbol_takes a) (either_sign a b) Any tt tt) (takes_viable (parse_symbol b) (symbol_takes b) (either_sign a b) Any tt tt)

-- nothing is read
pub done_viable : {X : Type 0} (x : X) → FailsViably {X = X} (λ ts. Ok (x, ts)) no_sign Any
done_viable x = never_viable (λ ts. Ok (x, ts)) no_sign Any (λ ts f e. cc)

-- a word, a symbol, one of two, and what follows
module _ {Y W : Type 0} (signs : W → List Sign) (Good : W → Type 0) (some : W) (good : Good some) where
  pub word_then : (next : Word → List Token → ParseResult Y) → ((w : Word) → FailsViably (next w) signs Good) → FailsViably {X = Y} {V = Word × W} (λ ts. parse_word ts >>= λ p. next p.0 p.1) (λ v. signs_of_word v.0 ++ signs v.1) (λ v. Any v.0 × Good v.1)
  word_then next others = then_viable parse_word next signs_of_word Any signs Good word_stable (λ w. w) (λ ts rest w e. (word_sound ts rest w e, tt)) word_viable others some good

  pub symbol_then : (s : Symbol) (next : ℕ → List Token → ParseResult Y) → ((o : ℕ) → FailsViably (next o) signs Good) → FailsViably {X = Y} {V = Unit {0} × W} (λ ts. parse_symbol s ts >>= λ p. next p.0 p.1) (λ v. plain_sign s v.0 ++ signs v.1) (λ v. Any v.0 × Good v.1)
  symbol_then s next others = then_viable (parse_symbol s) next (plain_sign s) Any signs Good (symbol_stable s) (λ o. tt) (λ ts rest o e. (plain_sound s ts rest o e, tt)) (symbol_viable s) others some good

  pub one_of_then : (a b : Symbol) (next : ℕ → List Token → ParseResult Y) → ((o : ℕ) → FailsViably (next o) signs Good) → FailsViably {X = Y} {V = Unit {0} × W} (λ ts. parse_either a b ts >>= λ p. next p.0 p.1) (λ v. either_sign a b v.0 ++ signs v.1) (λ v. Any v.0 × Good v.1)
  one_of_then a b next others = then_viable (parse_either a b) next (either_sign a b) Any signs Good (one_of_stable a b) (λ o. tt) (λ ts rest o e. (either_sound a b ts rest o e, tt)) (one_of_viable a b) others some good

-- the word `key` never stops
key_reads : (ts : List Token) (f : ErrorPosition) → begins_with Key ts ≡ true → parse_symbol Key ts ≡ Err f → ⊥
unfolding parse_symbol
key_reads [] f begins e = cc
key_reads (Name w ∷ ts) f begins e = cc
key_reads (Fixed s o ∷ ts) f begins e = (let read : parse_symbol Key (Fixed s o ∷ ts) ≡ Ok (o, ts) = rw begins refl in cc)

key_by : (a : Adorn) (ts : List Token) (f : ErrorPosition) (goes : Bool) → takes_key a && begins_with Key ts ≡ goes → (key : ParseResult ℕ) → parse_symbol Key ts ≡ key → ◌≡◌ {A = ParseResult (Option ℕ)} (cond goes (◌>>=◌ {B = Option ℕ × List Token} key (λ key. Ok (Some key.0, key.1))) (Ok (None, ts))) (Err f) → ⊥
key_by a ts f false goes key read e = cc
key_by a ts f true goes (Ok k) read e = cc
key_by a ts f true goes (Err g) read e = key_reads ts g (and_parts (takes_key a) (begins_with Key ts) goes).1 read

key_never : (a : Adorn) (ts : List Token) (f : ErrorPosition) → parse_key a ts ≡ Err f → ⊥
unfolding parse_key
key_never a ts f e = key_by a ts f (takes_key a && begins_with Key ts) refl (parse_symbol Key ts) refl e

bind_never : {X Y : Type 0} (first : ParseResult X) (next : X × List Token → ParseResult Y) (f : ErrorPosition) → ((g : ErrorPosition) → first ≡ Err g → ⊥) → ((p : X × List Token) → next p ≡ Err f → ⊥) → (first >>= next) ≡ Err f → ⊥
bind_never (Ok p) next f never none e = none p e
bind_never (Err g) next f never none e = never g refl

-- an adorned parameter
pub formal_viable : FailsViably parse_formal signs_of_formal IsFormal
unfolding parse_formal
formal_viable =
    viable_as parse_formal (λ (v : (Adorn × ℕ) × (Word × Unit {0})). adorn_sign v.0 ++ (signs_of_word v.1.0 ++ no_sign v.1.1)) (λ v. Any v.0 × (Any v.1.0 × Any v.1.1)) signs_of_formal IsFormal
    (λ v. record { adorn = v.0.0; offset = v.0.1; name = v.1.0; key = None }) (λ v. refl) (λ v good is. refl)
    (then_viable parse_adorn _ adorn_sign Any (λ (v : Word × Unit {0}). signs_of_word v.0 ++ no_sign v.1) (λ v. Any v.0 × Any v.1) adorn_stable (λ a. a) (λ ts rest a e. (adorn_sound ts rest a.0 a.1 e, tt))
    (takes_viable parse_adorn adorn_takes adorn_sign Any (adorn.In, 0) tt)
    (λ adorned. word_then no_sign Any tt tt (λ name ts. parse_key adorned.0 ts >>= λ key. Ok (record { adorn = adorned.0; offset = adorned.1; name = name; key = key.0 }, key.1))
    (λ name. never_viable (λ ts. parse_key adorned.0 ts >>= λ key. Ok (record { adorn = adorned.0; offset = adorned.1; name = name; key = key.0 }, key.1)) no_sign Any
    (λ ts f e. bind_never (parse_key adorned.0 ts) _ f (λ g e. key_never adorned.0 ts g e) (λ p e. cc) e)))
    (some_word, tt) (tt, tt))

-- a separator and an item
viable_same : {X V : Type 0} (one other : List Token → ParseResult X) (signs : V → List Sign) (Good : V → Type 0) → ((ts : List Token) → one ts ≡ other ts) → FailsViably one signs Good → FailsViably other signs Good
viable_same one other signs Good same viable ts f e =
    let b = viable ts f (same ts ∙ e) in
    let a = b.failure in
    record {
      failure = record { prefix = a.prefix; left = a.left; parts = a.parts; position = a.position; again = λ t after is more. sym (same (a.prefix ++ t ∷ more)) ∙ a.again t after is more };
      value = b.value;
      more = b.more;
      good = b.good;
      spelled = b.spelled;
    }

comma_viable : {X : Type 0} (one : List Token → ParseResult X) (signs : X → List Sign) (Good : X → Type 0) (some : X) → Good some → FailsViably one signs Good → FailsViably (λ ts. (parse_symbol Comma ts >>= λ c. Ok c.1) >>= λ after. one after) (λ x. Plain Comma ∷ signs x) Good
comma_viable {X} one signs Good some good viable =
    viable_same (λ ts. parse_symbol Comma ts >>= λ p. one p.1) (λ ts. (parse_symbol Comma ts >>= λ c. Ok c.1) >>= λ after. one after) (λ x. Plain Comma ∷ signs x) Good (λ ts. comma_step one (parse_symbol Comma ts))
    (viable_as (λ ts. parse_symbol Comma ts >>= λ p. one p.1) (λ (v : Unit {0} × X). plain_sign Comma v.0 ++ signs v.1) (λ v. Any v.0 × Good v.1) (λ x. Plain Comma ∷ signs x) Good (λ v. v.1) (λ v. refl) (λ v good. good.1)
    (symbol_then signs Good some good Comma (λ o. one) (λ o. viable)))

-- the sound step
pub step_sound : {X : Type 0} (kind : ListKind) (one : List Token → ParseResult X) (signs : X → List Sign) (Good : X → Type 0) (May : List Token → Type 0) → Reads one signs Good May → (ts rest : List Token) (x : X) → step kind one ts ≡ Ok (x, rest) → Spelled (separator kind ++ signs x) ts rest × Good x
step_sound kind one signs Good May reads ts rest x e =
    bind_then (parse_separator kind ts) _ (x, rest) e (λ after separator_read read.
    let known = reads.sound after rest x read in
    (Spelled-then (separator kind) (signs x) ts after rest (separator_sound kind ts after separator_read) known.0, known.1))

pub more_words_viable : FailsViably (parse_many list_kind.Comma parse_word) (after_commas signs_of_word) (All Any)
more_words_viable = many_viable list_kind.Comma parse_word signs_of_word Any word_stable (step_shortens list_kind.Comma parse_word _ AnyWord AnyTokens word_reads words_repeat) comma_notes (step_sound list_kind.Comma parse_word signs_of_word AnyWord AnyTokens word_reads) (comma_viable parse_word signs_of_word Any some_word tt word_viable)

pub more_formals_viable : FailsViably (parse_many list_kind.Comma parse_formal) (after_commas signs_of_formal) (All IsFormal)
more_formals_viable = many_viable list_kind.Comma parse_formal signs_of_formal IsFormal formal_stable (step_shortens list_kind.Comma parse_formal _ _ Keyless formal_reads formals_repeat) comma_notes (step_sound list_kind.Comma parse_formal signs_of_formal IsFormal Keyless formal_reads) (comma_viable parse_formal signs_of_formal IsFormal some_formal (λ is. refl) formal_viable)

-- an item, and those after commas
pub prefix_viable : {X V : Type 0} (prefix : List X) (many : List Token → ParseResult (List X)) (signs : V → List Sign) (Good : V → Type 0) → PrefixStable many → (seen : List X → V) → ((ts rest : List Token) (xs : List X) → many ts ≡ Ok (xs, rest) → Spelled (signs (seen xs)) ts rest × Good (seen xs)) → FailsViably many signs Good → FailsViably (λ ts. with_prefix prefix (many ts)) signs Good
prefix_viable {X} {V} prefix many signs Good stable seen sound viable =
    viable_as (λ ts. with_prefix prefix (many ts)) (λ (v : V × Unit {0}). signs v.0 ++ no_sign v.1) (λ v. Good v.0 × Any v.1) signs Good (λ v. v.0) (λ v. append-nil (signs v.0)) (λ v good. good.0)
    (then_viable many (λ more ts. Ok (prefix ++ more, ts)) signs Good no_sign Any stable seen sound viable (λ more. done_viable (prefix ++ more)) tt tt)

listed_viable : {X : Type 0} (one : List Token → ParseResult X) (signs : X → List Sign) (Good : X → Type 0) (May : List Token → Type 0) → Reads one signs Good May → PrefixStable one → PrefixStable (parse_many list_kind.Comma one) → FailsViably one signs Good → FailsViably (parse_many list_kind.Comma one) (after_commas signs) (All Good) → FailsViably (parse_list one) (λ (v : X × List X). listed signs (v.0 ∷ v.1)) (λ v. Good v.0 × All Good v.1)
unfolding parse_list
listed_viable {X} one signs Good May reads stable stable' viable viable' =
    then_viable one (λ x ts. with_prefix (x ∷ []) (parse_many list_kind.Comma one ts)) signs Good (after_commas signs) (All Good) stable (λ x. x) reads.sound viable
    (λ x. prefix_viable (x ∷ []) (parse_many list_kind.Comma one) (after_commas signs) (All Good) stable' (λ xs. xs) (λ ts rest xs e. many-sound list_kind.Comma one signs Good May reads ts rest xs e) viable') [] (All-nil Good)

pub words_viable : FailsViably (parse_list parse_word) (λ (v : Word × List Word). listed signs_of_word (v.0 ∷ v.1)) (λ v. Any v.0 × All Any v.1)
words_viable = listed_viable parse_word signs_of_word Any AnyTokens word_reads word_stable more_words word_viable more_words_viable

pub formals_viable : FailsViably (parse_list parse_formal) (λ (v : Formal × List Formal). listed signs_of_formal (v.0 ∷ v.1)) (λ v. IsFormal v.0 × All IsFormal v.1)
formals_viable = listed_viable parse_formal signs_of_formal IsFormal Keyless formal_reads formal_stable more_formals formal_viable more_formals_viable

-- a list, and what follows
abbrev pub list_signs : {X : Type 0} → (X → List Sign) → List X → List Sign
list_signs signs xs = listed signs xs

abbrev pub some_list : {X : Type 0} → X × List X → List X
some_list v = v.0 ∷ v.1

words_view : FailsViably (parse_list parse_word) (list_signs signs_of_word) (GoodList Any)
words_view = viable_as (parse_list parse_word) (λ (v : Word × List Word). listed signs_of_word (v.0 ∷ v.1)) (λ v. Any v.0 × All Any v.1) (list_signs signs_of_word) (GoodList Any) some_list (λ v. refl) (λ v good. record { some = λ is. cc; each = All-cons Any v.0 v.1 good.0 good.1 }) words_viable

formals_view : FailsViably (parse_list parse_formal) (list_signs signs_of_formal) (GoodList IsFormal)
formals_view = viable_as (parse_list parse_formal) (λ (v : Formal × List Formal). listed signs_of_formal (v.0 ∷ v.1)) (λ v. IsFormal v.0 × All IsFormal v.1) (list_signs signs_of_formal) (GoodList IsFormal) some_list (λ v. refl) (λ v good. record { some = λ is. cc; each = All-cons IsFormal v.0 v.1 good.0 good.1 }) formals_viable

module _ {Y W : Type 0} (signs : W → List Sign) (Good : W → Type 0) (some : W) (good : Good some) where
  pub words_then : (next : List Word → List Token → ParseResult Y) → ((ws : List Word) → FailsViably (next ws) signs Good) → FailsViably {X = Y} {V = List Word × W} (λ ts. parse_list parse_word ts >>= λ p. next p.0 p.1) (λ v. list_signs signs_of_word v.0 ++ signs v.1) (λ v. GoodList Any v.0 × Good v.1)
  words_then next others = then_viable (parse_list parse_word) next (list_signs signs_of_word) (GoodList Any) signs Good words_stable (λ ws. ws) (λ ts rest ws e. listed-sound parse_word signs_of_word Any AnyTokens word_reads ts rest ws e) words_view others some good

  pub formals_then : (next : List Formal → List Token → ParseResult Y) → ((fs : List Formal) → FailsViably (next fs) signs Good) → FailsViably {X = Y} {V = List Formal × W} (λ ts. parse_list parse_formal ts >>= λ p. next p.0 p.1) (λ v. list_signs signs_of_formal v.0 ++ signs v.1) (λ v. GoodList IsFormal v.0 × Good v.1)
  formals_then next others = then_viable (parse_list parse_formal) next (list_signs signs_of_formal) (GoodList IsFormal) signs Good formals_stable (λ fs. fs) (λ ts rest fs e. listed-sound parse_formal signs_of_formal IsFormal Keyless formal_reads ts rest fs e) formals_view others some good

-- a list of one parameter, and of one word
pub one_formal : GoodList IsFormal (some_formal ∷ [])
one_formal = record { some = λ is. cc; each = All-cons IsFormal some_formal [] (λ is. refl) (All-nil IsFormal) }

pub one_word : GoodList {X = Word} Any (some_word ∷ [])
one_word = record { some = λ is. cc; each = All-cons Any some_word [] tt (All-nil Any) }
