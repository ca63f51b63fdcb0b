-- Reading one token.
use Rattle.std.proofs.Common.{◌≡◌, ℕ, Bool, true, false, cond, List, [], ◌∷◌, Option, Some, None, Ok, Err, inl, inr, refl, ap, ◌∙◌}
use Rattle.std.specs.Option.{option_map_or}
use Rattle.std.proofs.lemmas.Bool.{cases_Bool}
use Rattle.bspl_parser.specs.declared.document.Adorn.{Adorn}
use Rattle.bspl_parser.specs.declared.document.Adorn.TheVariants as adorn
use Rattle.bspl_parser.specs.declared.parse_error.ErrorPosition.{ErrorPosition}
use Rattle.bspl_parser.specs.declared.parse_error.ErrorPosition.TheVariants.{At}
use Rattle.bspl_parser.specs.declared.symbol.Symbol.{Symbol}
use Rattle.bspl_parser.specs.declared.symbol.Symbol.TheVariants.{In, Out, Nil, Any, Opt}
use Rattle.bspl_parser.specs.declared.token.Token.{Token}
use Rattle.bspl_parser.specs.declared.token.Token.TheVariants.{Name, Fixed}
use Rattle.bspl_parser.specs.declared.word.Word.{Word}
use Rattle.bspl_parser.specs.inner.SymbolTable.{same_symbol}
use Rattle.bspl_parser.specs.Sign.{Named, Located, Plain, OneOf}
use Rattle.bspl_parser.specs.Grammar.{signs_of_word, symbol_of}
use Rattle.bspl_parser.specs.inner.ParseResult.{ParseResult}
use Rattle.bspl_parser.specs.inner.TokenParsers.{begins_with, parse_word, parse_symbol, parse_either, adorn_of, parse_adorn}
use Rattle.bspl_parser.proofs.SymbolLemmas.{same_symbol-refl, same_symbol-true}
use Rattle.bspl_parser.proofs.Spelled.{Spelled, Reads, ok_is}

-- a reading after a test that it passed
pub guard_ok : {A : Type 0} (b : Bool) (x y : A) (position : ErrorPosition) → cond b (Ok x) (Err position) ≡ Ok y → (b ≡ true) × (x ≡ y)
guard_ok true x y position e = (refl, ok_is x y e)
guard_ok false x y position e = absurd cc

-- a word
pub word_sound : (ts rest : List Token) (w : Word) → parse_word ts ≡ Ok (w, rest) → Spelled (Named w ∷ []) ts rest
unfolding parse_word
word_sound [] rest w e = absurd cc
word_sound (Name v ∷ ts) rest w e = let same = ok_is (v, ts) (w, rest) e in (Name v, ts, refl, ap (λ p. Name p.0) same, ap (λ p. p.1) same)
word_sound (Fixed s o ∷ ts) rest w e = absurd cc

-- a word that is spelled is read
pub word_complete : (ts rest : List Token) (w : Word) → Spelled (Named w ∷ []) ts rest → parse_word ts ≡ Ok (w, rest)
unfolding parse_word
word_complete ts rest w spelled = rw (spelled.2, spelled.3, spelled.4) refl

pub word_reads : Reads parse_word signs_of_word (λ w. Unit {0}) (λ ts. Unit {0})
word_reads = record { sound = λ ts rest w e. (word_sound ts rest w e, tt); complete = λ ts rest w spelled good may. word_complete ts rest w spelled }

-- a symbol at its offset
pub symbol_sound : (s : Symbol) (ts rest : List Token) (o : ℕ) → parse_symbol s ts ≡ Ok (o, rest) → Spelled (Located s o ∷ []) ts rest
unfolding parse_symbol
symbol_sound s [] rest o e = absurd cc
symbol_sound s (Name v ∷ ts) rest o e = absurd cc
symbol_sound s (Fixed t p ∷ ts) rest o e =
    let passed = guard_ok (same_symbol t s) (p, ts) (o, rest) (At p) e in
    let same : t ≡ s = same_symbol-true t s passed.0 in
    let same_offset : p ≡ o = ap (λ q. q.0) passed.1 in
    (Fixed t p, ts, refl, cc, ap (λ q. q.1) passed.1)

-- a symbol that is spelled is read
pub symbol_complete : (s : Symbol) (ts rest : List Token) (o : ℕ) → Spelled (Located s o ∷ []) ts rest → parse_symbol s ts ≡ Ok (o, rest)
unfolding parse_symbol
symbol_complete s ts rest o spelled = rw (spelled.2, spelled.3, same_symbol-refl s, spelled.4) refl

-- a symbol at any offset
pub plain_sound : (s : Symbol) (ts rest : List Token) (o : ℕ) → parse_symbol s ts ≡ Ok (o, rest) → Spelled (Plain s ∷ []) ts rest
plain_sound s ts rest o e =
    let at_offset = symbol_sound s ts rest o e in
    (at_offset.0, at_offset.1, at_offset.2, (o, at_offset.3), at_offset.4)

-- and it is taken at any offset
pub plain_complete : (s : Symbol) (ts rest : List Token) → Spelled (Plain s ∷ []) ts rest → (o : ℕ) × (parse_symbol s ts ≡ Ok (o, rest))
plain_complete s ts rest spelled = (spelled.3.0, symbol_complete s ts rest spelled.3.0 (spelled.0, spelled.1, spelled.2, spelled.3.1, spelled.4))

-- one of two symbols
pub either_sound : (a b : Symbol) (ts rest : List Token) (o : ℕ) → parse_either a b ts ≡ Ok (o, rest) → Spelled (OneOf a b ∷ []) ts rest
either_sound a b ts rest o e =
    (elim (begins_with a ts) as (λ goes. cond goes (parse_symbol a ts) (parse_symbol b ts) ≡ Ok (o, rest) → Spelled (OneOf a b ∷ []) ts rest) [
      | true ↦ λ read. let at_offset = symbol_sound a ts rest o read in (at_offset.0, at_offset.1, at_offset.2, (o, inl at_offset.3), at_offset.4)
      | false ↦ λ read. let at_offset = symbol_sound b ts rest o read in (at_offset.0, at_offset.1, at_offset.2, (o, inr at_offset.3), at_offset.4)
    ]) e

-- the first of two is read
either_first : (a b : Symbol) (rest : List Token) (o : ℕ) → parse_either a b (Fixed a o ∷ rest) ≡ Ok (o, rest)
unfolding parse_symbol
either_first a b rest o = rw same_symbol-refl refl

-- the second of two is read
either_second : (a b : Symbol) (rest : List Token) (o : ℕ) → parse_either a b (Fixed b o ∷ rest) ≡ Ok (o, rest)
unfolding parse_symbol
either_second a b rest o =
    elim (cases_Bool (same_symbol b a)) [
      | inl same ↦ rw same refl
      | inr other ↦ rw (other, same_symbol-refl b) refl
    ]

-- one of two that is spelled is read
pub either_complete : (a b : Symbol) (ts rest : List Token) → Spelled (OneOf a b ∷ []) ts rest → (o : ℕ) × (parse_either a b ts ≡ Ok (o, rest))
either_complete a b ts rest spelled =
    let o = spelled.3.0 in
    elim spelled.3.1 [
      | inl is ↦ (o, ap (parse_either a b) (spelled.2 ∙ ap (λ t. t ∷ spelled.1) is ∙ ap (λ r. Fixed a o ∷ r) spelled.4) ∙ either_first a b rest o)
      | inr is ↦ (o, ap (parse_either a b) (spelled.2 ∙ ap (λ t. t ∷ spelled.1) is ∙ ap (λ r. Fixed b o ∷ r) spelled.4) ∙ either_second a b rest o)
    ]

-- an adornment
adorn_of-some : (s : Symbol) (a : Adorn) → adorn_of s ≡ Some a → s ≡ symbol_of a
adorn_of-some In a e = let same : adorn.In ≡ a = cc in ap symbol_of same
adorn_of-some Out a e = let same : adorn.Out ≡ a = cc in ap symbol_of same
adorn_of-some Nil a e = let same : adorn.Nil ≡ a = cc in ap symbol_of same
adorn_of-some Any a e = let same : adorn.Any ≡ a = cc in ap symbol_of same
adorn_of-some Opt a e = let same : adorn.Opt ≡ a = cc in ap symbol_of same
adorn_of-some s a e = absurd cc

-- the adornment of its symbol
adorn_of-symbol_of : (a : Adorn) → adorn_of (symbol_of a) ≡ Some a
adorn_of-symbol_of adorn.In = refl
adorn_of-symbol_of adorn.Out = refl
adorn_of-symbol_of adorn.Nil = refl
adorn_of-symbol_of adorn.Any = refl
adorn_of-symbol_of adorn.Opt = refl

-- the adornment that is found is spelled by its sign
adorn_found : (s : Symbol) (p : ℕ) (ts rest : List Token) (a : Adorn) (o : ℕ) (found : Option Adorn) → adorn_of s ≡ found → option_map_or {U = ParseResult (Adorn × ℕ)} (λ b. Ok ((b, p), ts)) found (Err (At p)) ≡ Ok ((a, o), rest) → Spelled (Located (symbol_of a) o ∷ []) (Fixed s p ∷ ts) rest
adorn_found s p ts rest a o None is e = absurd cc
adorn_found s p ts rest a o (Some b) is e =
    let same = ok_is ((b, p), ts) ((a, o), rest) e in
    let symbol : s ≡ symbol_of a = adorn_of-some s b is ∙ ap (λ q. symbol_of q.0.0) same in
    let same_offset : p ≡ o = ap (λ q. q.0.1) same in
    (Fixed s p, ts, refl, cc, ap (λ q. q.1) same)

-- the adornment that is read is spelled by its sign
pub adorn_sound : (ts rest : List Token) (a : Adorn) (o : ℕ) → parse_adorn ts ≡ Ok ((a, o), rest) → Spelled (Located (symbol_of a) o ∷ []) ts rest
unfolding parse_adorn
adorn_sound [] rest a o e = absurd cc
adorn_sound (Name v ∷ ts) rest a o e = absurd cc
adorn_sound (Fixed s p ∷ ts) rest a o e = adorn_found s p ts rest a o (adorn_of s) refl e

-- and the one that its sign spells is read
pub adorn_complete : (ts rest : List Token) (a : Adorn) (o : ℕ) → Spelled (Located (symbol_of a) o ∷ []) ts rest → parse_adorn ts ≡ Ok ((a, o), rest)
unfolding parse_adorn
adorn_complete ts rest a o spelled = rw (spelled.2, spelled.3, adorn_of-symbol_of a, spelled.4) refl

-- the value of two readings that are one
pub first_of_same : {X : Type 0} {rest : List Token} (x y : X) → ◌≡◌ {A = ParseResult X} (Ok (x, rest)) (Ok (y, rest)) → x ≡ y
first_of_same {X} {rest} x y e = ap (λ p. p.0) (ok_is (x, rest) (y, rest) e)
