-- A token that is kept as an offset, a length and a kind, beside the text.
use Rattle.std.specs.Prelude.{◌≡◌, ℕ, ◌+◌, ◌≤◌, Bool, true, false, List, length, take, drop}
use Rattle.std.specs.Prelude.{IsTrue, refl}
use Rattle.bspl_types.specs.Name.{is_name}
use Rattle.bspl_parser.specs.declared.packed_token.Kind.{Kind}
use Rattle.bspl_parser.specs.declared.packed_token.Kind.TheVariants as kind
use Rattle.bspl_parser.specs.declared.packed_token.PackedToken.{PackedToken}
use Rattle.bspl_parser.specs.declared.symbol.Symbol.{Symbol}
use Rattle.bspl_parser.specs.declared.symbol.Symbol.TheVariants.{Comma}
use Rattle.bspl_parser.specs.declared.token.Token.{Token}
use Rattle.bspl_parser.specs.declared.token.Token.TheVariants.{Name, Fixed}
use Rattle.bspl_parser.specs.inner.SymbolTable.{same_symbol}

-- a token of that kind is the symbol
abbrev pub is_symbol : Symbol → Kind → Bool
is_symbol symbol kind.Name = false
is_symbol symbol (kind.Fixed other) = same_symbol other symbol

-- a token of that kind is a name
abbrev pub is_name_kind : Kind → Bool
is_name_kind kind.Name = true
is_name_kind (kind.Fixed symbol) = false

-- the bytes of the token in the text
abbrev pub packed_bytes : List ℕ → PackedToken → List ℕ
packed_bytes text p = take p.len (drop p.start text)

-- the bytes as a name, if they are one
abbrev pub name_token : (bytes : List ℕ) (is : Bool) → is_name bytes ≡ is → ℕ → Token
name_token bytes true named offset = Name (record { text = bytes; offset = offset; named = named })
name_token bytes false other offset = Fixed Comma offset

-- the token of that kind, with those bytes and that offset
abbrev pub kind_token : Kind → List ℕ → ℕ → Token
kind_token kind.Name bytes offset = name_token bytes (is_name bytes) refl offset
kind_token (kind.Fixed symbol) bytes offset = Fixed symbol offset

-- the token that is kept
abbrev pub unpacked : List ℕ → PackedToken → Token
unpacked text p = kind_token p.kind (packed_bytes text p) p.start

-- the token lies in the text, and the bytes of a name are one
pub record IsPacked (text : List ℕ) (p : PackedToken) : Type 0 where
  pub within : p.start + p.len ≤ length text
  pub named : p.kind ≡ kind.Name → IsTrue (is_name (packed_bytes text p))
