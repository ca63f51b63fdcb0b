-- What some bytes begin with: a gap, or the longest token.
use Rattle.std.specs.Prelude.{◌≡◌, ℕ, ◌+◌, nat_eq, nat_lt, ◌==◌, if◌then◌else◌, List, [], ◌∷◌}
use Rattle.std.specs.Prelude.{length, take, codes, position, Option, Some}
use Rattle.std.specs.List.{find, starts_with}
use Rattle.std.specs.Option.{option_map, option_map_or}
use Rattle.std.specs.Str.{bytes_eq}
use Rattle.bspl_parser.specs.declared.packed_token.Kind.{Kind}
use Rattle.bspl_parser.specs.declared.packed_token.Kind.TheVariants as kind
use Rattle.bspl_parser.specs.declared.symbol.Symbol.{Symbol}
use Rattle.bspl_parser.specs.declared.symbol.Symbol.TheVariants.{Arrow}
use Rattle.bspl_parser.specs.declared.token.Token.{Token}
use Rattle.bspl_parser.specs.declared.token.Token.TheVariants.{Name, Fixed}
use Rattle.bspl_parser.specs.inner.NameLength.{name_len}
use Rattle.bspl_parser.specs.Symbol.{spelling}
use Rattle.bspl_parser.specs.inner.SymbolTable.{words, marks}
use Rattle.bspl_parser.specs.Tokens.{is_blank_byte, long_arrow}

-- the length of a comment up to its LF, or to the end
abbrev pub comment_len : List ℕ → ℕ
comment_len bytes =
    option_map_or (λ index. index + 1) (position (λ b. b == 10) bytes) (length bytes)

-- the length of the blank that the bytes begin with, or 0
abbrev pub blank_len : List ℕ → ℕ
blank_len [] = 0
blank_len (b ∷ bs) = if is_blank_byte b then 1 else 0

-- the length of the blank or of the comment that the bytes begin with, or 0
unfoldable pub gap_len : List ℕ → ℕ
gap_len bytes =
    if starts_with nat_eq bytes (codes "//") then comment_len bytes else blank_len bytes

-- the word among these that the text is
abbrev pub word_among : List Symbol → List ℕ → Option Symbol
word_among symbols text = find (λ s. bytes_eq text (spelling s)) symbols

-- the reserved word that the text is
abbrev pub word_symbol : List ℕ → Option Symbol
word_symbol text = word_among words text

-- a reserved word, or else a name
abbrev pub word_kind : List ℕ → Kind
word_kind text = option_map_or kind.Fixed (word_symbol text) kind.Name

-- the mark that the bytes begin with, and its length
unfoldable pub mark_at : List ℕ → Option (Symbol × ℕ)
mark_at bytes =
    if starts_with nat_eq bytes long_arrow
    then Some (Arrow, 3)
    else option_map (λ s. (s, length (spelling s)))
    (find (λ s. starts_with nat_eq bytes (spelling s)) marks)

-- the longest token that the bytes begin with, and its length
unfoldable pub first_token : List ℕ → Option (Kind × ℕ)
first_token bytes =
    if nat_lt 0 (name_len bytes)
    then Some (word_kind (take (name_len bytes) bytes), name_len bytes)
    else option_map (λ m. (kind.Fixed m.0, m.1)) (mark_at bytes)

-- the token is of that kind, with that text and offset
abbrev pub IsTokenOf : Kind → List ℕ → ℕ → Token → Type 0
IsTokenOf kind.Name text offset (Name word) = (word.text ≡ text) × (word.offset ≡ offset)
IsTokenOf kind.Name text offset (Fixed symbol other) = ⊥
IsTokenOf (kind.Fixed symbol) text offset token = token ≡ Fixed symbol offset
