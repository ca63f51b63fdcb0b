-- What was read of one token is read again, whatever follows.
use Rattle.std.proofs.Common.{◌≡◌, ℕ, true, false, ◌&&◌, cond, List, [], ◌∷◌, Option, Some, None, Result, Ok, Err, refl, sym, ap, subst, ◌∙◌}
use Rattle.std.specs.Option.{option_map_or}
use Rattle.bspl_parser.specs.declared.document.Adorn.{Adorn}
use Rattle.bspl_parser.specs.declared.parse_error.ErrorPosition.{ErrorPosition}
use Rattle.bspl_parser.specs.declared.parse_error.ErrorPosition.TheVariants.{At, End}
use Rattle.bspl_parser.specs.declared.symbol.Symbol.{Symbol}
use Rattle.bspl_parser.specs.declared.symbol.Symbol.TheVariants.{Key}
use Rattle.bspl_parser.specs.declared.token.Token.{Token}
use Rattle.bspl_parser.specs.declared.token.Token.TheVariants.{Name, Fixed}
use Rattle.bspl_parser.specs.declared.word.Word.{Word}
use Rattle.bspl_parser.specs.inner.ParseResult.{ParseResult, ◌>>=◌}
use Rattle.bspl_parser.specs.inner.SymbolTable.{same_symbol}
use Rattle.bspl_parser.specs.Token.{offset_of}
use Rattle.bspl_parser.specs.inner.TokenParsers.{begins_with, parse_word, parse_symbol, parse_either, adorn_of, parse_adorn, takes_key, parse_key}
use Rattle.bspl_parser.specs.inner.GrammarParsers.{parse_formal}
use Rattle.bspl_parser.proofs.Spelled.{ok_is}
use Rattle.bspl_parser.proofs.PrefixStable.{PrefixStable, StableSuccess, StableFailure, either_stable, then_stable, nothing_stable}

-- what the first token gives, and the tokens after it
abbrev pub with_rest : {X : Type 0} → Result X ErrorPosition → List Token → ParseResult X
with_rest (Ok x) ts = Ok (x, ts)
with_rest (Err f) ts = Err f

-- a reading that takes the first token, or blames it
pub record TakesOne {X : Type 0} (one : List Token → ParseResult X) : Type 0 where
  pub give : Token → Result X ErrorPosition
  pub blames : (t : Token) (f : ErrorPosition) → give t ≡ Err f → f ≡ At (offset_of t)
  pub some : (t : Token) (ts : List Token) → one (t ∷ ts) ≡ with_rest (give t) ts
  pub none : one [] ≡ Err End

module _ {X : Type 0} (one : List Token → ParseResult X) (takes : TakesOne one) where
  success_of : (t : Token) (ts rest : List Token) (x : X) (given : Result X ErrorPosition) → takes.give t ≡ given → with_rest given ts ≡ Ok (x, rest) → StableSuccess one (t ∷ ts) rest x
  success_of t ts rest x (Err f) is e = absurd cc
  success_of t ts rest x (Ok y) is e =
      let same = ok_is (y, ts) (x, rest) e in
      record {
        used = t ∷ [];
        parts = ap (λ p. t ∷ p.1) same;
        again = λ other alike. takes.some t other ∙ rw is (ap (λ p. Ok (p.0, other)) same);
      }

  success_at : (ts rest : List Token) (x : X) → one ts ≡ Ok (x, rest) → StableSuccess one ts rest x
  success_at [] rest x e = absurd (let none = takes.none in cc)
  success_at (t ∷ ts) rest x e = success_of t ts rest x (takes.give t) refl (sym (takes.some t ts) ∙ e)

  -- it stops at the first token
  stops_first_of : (t : Token) (ts : List Token) (f : ErrorPosition) (given : Result X ErrorPosition) → takes.give t ≡ given → with_rest given ts ≡ Err f → (s : StableFailure one (t ∷ ts) f) × (s.prefix ≡ [])
  stops_first_of t ts f (Ok y) is e = absurd cc
  stops_first_of t ts f (Err g) is e =
      let same : g ≡ f = cc in (
        record {
          prefix = [];
          left = t ∷ ts;
          parts = refl;
          position = takes.blames t f (is ∙ ap (λ (h : ErrorPosition). Err h) same);
          again = λ u after same_first more. (let first : t ≡ u = cc in subst (λ u. one (u ∷ more) ≡ Err f) first (takes.some t more ∙ rw is (ap (λ (h : ErrorPosition). Err h) same)));
        },
        refl,
      )

  pub stops_first : (ts : List Token) (f : ErrorPosition) → one ts ≡ Err f → (s : StableFailure one ts f) × (s.prefix ≡ [])
  stops_first [] f e = (let none = takes.none in let is : End ≡ f = cc in (record { prefix = []; left = []; parts = refl; position = sym is; again = λ t after same more. absurd cc }, refl))
  stops_first (t ∷ ts) f e = stops_first_of t ts f (takes.give t) refl (sym (takes.some t ts) ∙ e)

  -- what it read is read again, whatever follows
  pub takes_stable : PrefixStable one
  takes_stable = record { success = success_at }

-- a word
give_word : Token → Result Word ErrorPosition
give_word (Name w) = Ok w
give_word (Fixed s o) = Err (At o)

word_blames : (t : Token) (f : ErrorPosition) → give_word t ≡ Err f → f ≡ At (offset_of t)
unfolding give_word
word_blames (Name w) f e = absurd cc
word_blames (Fixed s o) f e = cc

word_some : (t : Token) (ts : List Token) → parse_word (t ∷ ts) ≡ with_rest (give_word t) ts
unfolding parse_word give_word
word_some (Name w) ts = refl
word_some (Fixed s o) ts = refl

word_none : parse_word [] ≡ Err End
unfolding parse_word
word_none = refl

pub word_takes : TakesOne parse_word
word_takes = record { give = give_word; blames = word_blames; some = word_some; none = word_none }

pub word_stable : PrefixStable parse_word
word_stable = takes_stable parse_word word_takes

-- a symbol
give_symbol : Symbol → Token → Result ℕ ErrorPosition
give_symbol s (Name w) = Err (At w.offset)
give_symbol s (Fixed t o) = cond (same_symbol t s) (Ok o) (Err (At o))

symbol_blames : (s : Symbol) (t : Token) (f : ErrorPosition) → give_symbol s t ≡ Err f → f ≡ At (offset_of t)
unfolding give_symbol
symbol_blames s (Name w) f e = cc
symbol_blames s (Fixed t o) f e =
    (elim (same_symbol t s) as (λ same. ◌≡◌ {A = Result ℕ ErrorPosition} (cond same (Ok o) (Err (At o))) (Err f) → f ≡ At o) [ true ↦ λ e. absurd cc | false ↦ λ e. cc ]) e

symbol_some : (s : Symbol) (t : Token) (ts : List Token) → parse_symbol s (t ∷ ts) ≡ with_rest (give_symbol s t) ts
unfolding parse_symbol give_symbol
symbol_some s (Name w) ts = refl
symbol_some s (Fixed t o) ts =
    elim (same_symbol t s) as (λ same. ◌≡◌ {A = ParseResult ℕ} (cond same (Ok (o, ts)) (Err (At o))) (with_rest (cond same (Ok o) (Err (At o))) ts)) [ true ↦ refl | false ↦ refl ]

symbol_none : (s : Symbol) → parse_symbol s [] ≡ Err End
unfolding parse_symbol
symbol_none s = refl

pub symbol_takes : (s : Symbol) → TakesOne (parse_symbol s)
symbol_takes s = record { give = give_symbol s; blames = symbol_blames s; some = symbol_some s; none = symbol_none s }

pub symbol_stable : (s : Symbol) → PrefixStable (parse_symbol s)
symbol_stable s = takes_stable (parse_symbol s) (symbol_takes s)

-- one of two symbols
pub one_of_stable : (a b : Symbol) → PrefixStable (parse_either a b)
one_of_stable a b = either_stable (begins_with a) (λ x y alike. alike.symbols a) (parse_symbol a) (parse_symbol b) (symbol_stable a) (symbol_stable b)

-- an adornment
abbrev locate_adorn : ℕ → Option Adorn → Result (Adorn × ℕ) ErrorPosition
locate_adorn o None = Err (At o)
locate_adorn o (Some a) = Ok (a, o)

give_adorn : Token → Result (Adorn × ℕ) ErrorPosition
give_adorn (Name w) = Err (At w.offset)
give_adorn (Fixed t o) = locate_adorn o (adorn_of t)

adorn_blames : (t : Token) (f : ErrorPosition) → give_adorn t ≡ Err f → f ≡ At (offset_of t)
unfolding give_adorn
adorn_blames (Name w) f e = cc
adorn_blames (Fixed t o) f e =
    (elim (adorn_of t) as (λ found. locate_adorn o found ≡ Err f → f ≡ At o) [ None ↦ λ e. cc | Some a ↦ λ e. absurd cc ]) e

adorn_some : (t : Token) (ts : List Token) → parse_adorn (t ∷ ts) ≡ with_rest (give_adorn t) ts
unfolding parse_adorn give_adorn
adorn_some (Name w) ts = refl
adorn_some (Fixed t o) ts =
    elim (adorn_of t) as (λ found. option_map_or {U = ParseResult (Adorn × ℕ)} (λ a. Ok ((a, o), ts)) found (Err (At o)) ≡ with_rest (locate_adorn o found) ts) [ None ↦ refl | Some a ↦ refl ]

adorn_none : parse_adorn [] ≡ Err End
unfolding parse_adorn
adorn_none = refl

pub adorn_takes : TakesOne parse_adorn
adorn_takes = record { give = give_adorn; blames = adorn_blames; some = adorn_some; none = adorn_none }

pub adorn_stable : PrefixStable parse_adorn
adorn_stable = takes_stable parse_adorn adorn_takes

-- the word `key`, if it may come
pub key_stable : (a : Adorn) → PrefixStable (parse_key a)
unfolding parse_key
key_stable a =
    either_stable (λ ts. takes_key a && begins_with Key ts) (λ x y alike. ap (λ b. takes_key a && b) (alike.symbols Key)) (λ ts. parse_symbol Key ts >>= λ key. Ok (Some key.0, key.1)) (λ ts. Ok (None, ts))
    (then_stable (parse_symbol Key) (λ o ts. Ok (Some o, ts)) (symbol_stable Key) (λ o. nothing_stable (Some o))) (nothing_stable None)

-- an adorned parameter
pub formal_stable : PrefixStable parse_formal
unfolding parse_formal
formal_stable =
    then_stable parse_adorn _ adorn_stable (λ adorned.
    then_stable parse_word _ word_stable (λ name.
    then_stable (parse_key adorned.0) _ (key_stable adorned.0) (λ key.
    nothing_stable (record { adorn = adorned.0; offset = adorned.1; name = name; key = key }))))
