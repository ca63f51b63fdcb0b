-- A word before a separator, and a mark before anything, is the longest token there.
use Rattle.std.proofs.Common.{◌≡◌, ℕ, true, false, List, [], ◌∷◌, ◌++◌, length, take, Option, Some, None, inl, inr, refl, sym, ap, subst, ◌∙◌, append_assoc, arith}
use Rattle.std.specs.Option.{option_map_or}
use Rattle.std.proofs.lemmas.List.{length-append, take_at, take_all, nil_from_length}
use Rattle.bspl_parser.specs.declared.name_length.State.{State}
use Rattle.bspl_parser.specs.declared.name_length.State.TheVariants.{Start, Plain, Dash, Hash, Number}
use Rattle.bspl_parser.specs.inner.NameLength.{next_state}
use Rattle.bspl_parser.specs.inner.Scanner.{mark_at}
use Rattle.bspl_parser.specs.Tokens.{IsLongestToken}
use Rattle.bspl_parser.proofs.NameLengthLemmas.{accepts}
use Rattle.bspl_parser.proofs.Texts.{IsMarkText, texts, some_is}

-- no name has the byte
abbrev pub EndsNames : ℕ → Type 0
EndsNames b = (s : State) → next_state s b ≡ None

-- a byte that no name has comes first
pub record IsSeparated (bytes : List ℕ) : Type 0 where
  pub first : ℕ
  pub others : List ℕ
  pub is : bytes ≡ first ∷ others
  pub ends : EndsNames first

-- a byte with which no state goes on
separated : (b : ℕ) (rest : List ℕ) → next_state Start b ≡ None → next_state Plain b ≡ None → next_state Dash b ≡ None → next_state Hash b ≡ None → next_state Number b ≡ None → IsSeparated (b ∷ rest)
separated b rest start plain dash hash number = record { first = b; others = rest; is = refl; ends = by_state }
  where
    by_state : EndsNames b
    by_state Start = start
    by_state Plain = plain
    by_state Dash = dash
    by_state Hash = hash
    by_state Number = number

-- each of these separates
pub at_space : (rest : List ℕ) → IsSeparated (32 ∷ rest)
at_space rest = separated 32 rest refl refl refl refl refl

pub at_lf : (rest : List ℕ) → IsSeparated (10 ∷ rest)
at_lf rest = separated 10 rest refl refl refl refl refl

pub at_comma : (rest : List ℕ) → IsSeparated (44 ∷ rest)
at_comma rest = separated 44 rest refl refl refl refl refl

pub at_colon : (rest : List ℕ) → IsSeparated (58 ∷ rest)
at_colon rest = separated 58 rest refl refl refl refl refl

pub at_open_bracket : (rest : List ℕ) → IsSeparated (91 ∷ rest)
at_open_bracket rest = separated 91 rest refl refl refl refl refl

pub at_close_bracket : (rest : List ℕ) → IsSeparated (93 ∷ rest)
at_close_bracket rest = separated 93 rest refl refl refl refl refl

pub at_open_paren : (rest : List ℕ) → IsSeparated (40 ∷ rest)
at_open_paren rest = separated 40 rest refl refl refl refl refl

pub at_close_paren : (rest : List ℕ) → IsSeparated (41 ∷ rest)
at_close_paren rest = separated 41 rest refl refl refl refl refl

-- what no state accepts is not accepted after one more byte
led_by : (text : List ℕ) (b : ℕ) (more : List ℕ) → ((s : State) → accepts s (text ++ b ∷ more) ≡ false) → (o : Option State) → option_map_or (λ next. accepts next (text ++ b ∷ more)) o false ≡ false
led_by text b more others None = refl
led_by text b more others (Some next) = others next

-- what has such a byte is not accepted
not_accepted : (s : State) (text : List ℕ) (b : ℕ) (more : List ℕ) → EndsNames b → accepts s (text ++ b ∷ more) ≡ false
not_accepted s [] b more ends = ap (λ o. option_map_or (λ next. accepts next more) o false) (ends s)
not_accepted s (c ∷ text) b more ends = led_by text b more (λ next. not_accepted next text b more ends) (next_state s c)

-- nor does a mark begin with a word
no_mark : (text more : List ℕ) → accepts Start text ≡ true → IsMarkText (text ++ more) → ⊥
no_mark text more word mark =
    let no = mark.no_name [] (length text) in
    let prefix : take (length text) ((text ++ more) ++ []) ≡ text = ap (take (length text)) (append_assoc text more []) ∙ take_at text (more ++ []) (length text) refl in
    let same = ap (accepts Start) prefix in
    cc

-- a word is alone before a separator
pub word_is_longest : (text : List ℕ) → accepts Start text ≡ true → (rest : List ℕ) → IsSeparated rest → IsLongestToken text rest
word_is_longest text word rest separated [] after longer parts spells = refl
word_is_longest text word rest separated (b ∷ more) after longer parts spells =
    let both = sym separated.is ∙ parts in
    let first : separated.first ≡ b = cc in
    elim (texts (text ++ b ∷ more) longer spells) [
      | inl accepted ↦ absurd (let no = not_accepted Start text b more (subst EndsNames first separated.ends) in cc)
      | inr mark ↦ absurd (no_mark text (b ∷ more) word mark)
    ]

-- a mark is alone before anything
pub mark_is_longest : (text : List ℕ) → IsMarkText text → (rest : List ℕ) → IsLongestToken text rest
mark_is_longest text mark rest more after longer parts spells =
    elim (texts (text ++ more) longer spells) [
      | inl accepted ↦
          let no = mark.no_name more (length (text ++ more)) in
          let same = ap (accepts Start) (take_all (length (text ++ more)) (text ++ more) (omega arith)) in
          absurd cc
      | inr other ↦
          let here : mark_at ((text ++ more) ++ []) ≡ Some (mark.symbol, length text) = ap mark_at (append_assoc text more []) ∙ mark.again (more ++ []) in
          let same = some_is (other.symbol, length (text ++ more)) (mark.symbol, length text) (sym (other.again []) ∙ here) in
          let long : length (text ++ more) ≡ length text = ap (λ p. p.1) same in
          nil_from_length more (omega (arith, length-append text more))
    ]
