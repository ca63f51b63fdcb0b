-- Reading an adorned parameter.
use Rattle.std.proofs.Common.{◌≡◌, ℕ, Bool, true, false, cond, ◌&&◌, List, [], ◌∷◌, Option, Some, None, Ok, refl, ap, ◌∙◌}
use Rattle.std.proofs.lemmas.Bool.{and_parts, and_right}
use Rattle.bspl_parser.specs.declared.document.Adorn.{Adorn}
use Rattle.bspl_parser.specs.declared.document.Adorn.TheVariants as adorn
use Rattle.bspl_parser.specs.declared.document.Formal.{Formal}
use Rattle.bspl_parser.specs.declared.symbol.Symbol.TheVariants.{Key}
use Rattle.bspl_parser.specs.declared.token.Token.{Token}
use Rattle.bspl_parser.specs.Sign.{Named, Located}
use Rattle.bspl_parser.specs.Grammar.{symbol_of, signs_of_key, signs_of_formal}
use Rattle.bspl_parser.specs.Spelling.{IsFormal}
use Rattle.bspl_parser.specs.inner.ParseResult.{◌>>=◌, ParseResult}
use Rattle.bspl_parser.specs.inner.TokenParsers.{begins_with, parse_word, parse_symbol, parse_adorn, takes_key, parse_key}
use Rattle.bspl_parser.specs.inner.GrammarParsers.{parse_formal}
use Rattle.bspl_parser.proofs.Spelled.{Spelled, Spelled-then, Reads, bind_then, split_then, took}
use Rattle.bspl_parser.proofs.Primitives.{word_sound, word_complete, symbol_sound, symbol_complete, adorn_sound, adorn_complete}

-- no `key` follows
abbrev pub Keyless : List Token → Type 0
Keyless ts = begins_with Key ts ≡ false

-- `nil` has no key
abbrev pub MayHave : Adorn → Option ℕ → Type 0
MayHave a key = a ≡ adorn.Nil → key ≡ None

-- no key follows a `nil` parameter
takes_no_key : (a : Adorn) (P : Type 0) → takes_key a ≡ true → a ≡ adorn.Nil → P
takes_no_key adorn.Nil P takes is = absurd cc
takes_no_key a P takes is = absurd cc

-- a key comes only if it may come
takes_some_key : (a : Adorn) (o : ℕ) → MayHave a (Some o) → takes_key a ≡ true
takes_some_key adorn.In o may = refl
takes_some_key adorn.Out o may = refl
takes_some_key adorn.Nil o may = absurd (let none = may refl in cc)
takes_some_key adorn.Any o may = refl
takes_some_key adorn.Opt o may = refl

-- the key that is read is spelled by its sign, by the test for it
key_found : (a : Adorn) (ts rest : List Token) (k : Option ℕ) (goes : Bool) → takes_key a && begins_with Key ts ≡ goes → ◌≡◌ {A = ParseResult (Option ℕ)} (cond goes (◌>>=◌ {B = Option ℕ × List Token} (parse_symbol Key ts) (λ key. Ok (Some key.0, key.1))) (Ok (None, ts))) (Ok (k, rest)) → Spelled (signs_of_key k) ts rest × MayHave a k
key_found a ts rest k true goes e =
    bind_then (parse_symbol Key ts) _ (k, rest) e (λ key read made.
    took signs_of_key (MayHave a) ts (Some key.0, key.1) (k, rest) made (symbol_sound Key ts key.1 key.0 read) (λ is. takes_no_key a _ (and_parts (takes_key a) (begins_with Key ts) goes).0 is))
key_found a ts rest k false goes e = took signs_of_key (MayHave a) ts (None, ts) (k, rest) e refl (λ is. refl)

-- the key that is read is spelled by its sign
key_sound : (a : Adorn) (ts rest : List Token) (k : Option ℕ) → parse_key a ts ≡ Ok (k, rest) → Spelled (signs_of_key k) ts rest × MayHave a k
unfolding parse_key
key_sound a ts rest k e = key_found a ts rest k (takes_key a && begins_with Key ts) refl e

-- and the one that its sign spells is read
key_complete : (a : Adorn) (ts rest : List Token) (k : Option ℕ) → Spelled (signs_of_key k) ts rest → MayHave a k → Keyless rest → parse_key a ts ≡ Ok (k, rest)
unfolding parse_key
key_complete a ts rest None spelled may keyless = rw spelled (rw (and_right (takes_key a) (begins_with Key rest) keyless) refl)
key_complete a ts rest (Some o) spelled may keyless =
    let read = symbol_complete Key ts rest o spelled in
    let begins : begins_with Key ts ≡ true = ap (begins_with Key) (spelled.2 ∙ ap (λ t. t ∷ spelled.1) spelled.3) in
    rw (takes_some_key a o may, begins, read) refl

-- a parameter that is read is spelled by its signs
formal_sound : (ts rest : List Token) (f : Formal) → parse_formal ts ≡ Ok (f, rest) → Spelled (signs_of_formal f) ts rest × IsFormal f
unfolding parse_formal
formal_sound ts rest f e =
    bind_then (parse_adorn ts) _ (f, rest) e (λ adorned read_adorned then_name.
    bind_then (parse_word adorned.1) _ (f, rest) then_name (λ name read_name then_key.
    bind_then (parse_key adorned.0.0 name.1) _ (f, rest) then_key (λ key read_key made.
    let keyed = key_sound adorned.0.0 name.1 key.1 key.0 read_key in
    let named = Spelled-then (Named name.0 ∷ []) (signs_of_key key.0) adorned.1 name.1 key.1 (word_sound adorned.1 name.1 name.0 read_name) keyed.0 in
    let whole = Spelled-then (Located (symbol_of adorned.0.0) adorned.0.1 ∷ []) (Named name.0 ∷ signs_of_key key.0) ts adorned.1 key.1 (adorn_sound ts adorned.1 adorned.0.0 adorned.0.1 read_adorned) named in
    took signs_of_formal IsFormal ts (record { adorn = adorned.0.0; offset = adorned.0.1; name = name.0; key = key.0 }, key.1) (f, rest) made whole keyed.1)))

-- and one that its signs spell is read
formal_complete : (ts rest : List Token) (f : Formal) → Spelled (signs_of_formal f) ts rest → IsFormal f → Keyless rest → parse_formal ts ≡ Ok (f, rest)
unfolding parse_formal
formal_complete ts rest f spelled good keyless =
    split_then (Located (symbol_of f.adorn) f.offset ∷ []) (Named f.name ∷ signs_of_key f.key) ts rest spelled (λ named adorned then_name.
    split_then (Named f.name ∷ []) (signs_of_key f.key) named rest then_name (λ keyed name then_key.
    rw (adorn_complete ts named f.adorn f.offset adorned, word_complete named keyed f.name name, key_complete f.adorn keyed rest f.key then_key good keyless) refl))

pub formal_reads : Reads parse_formal signs_of_formal IsFormal Keyless
formal_reads = record { sound = formal_sound; complete = formal_complete }
