-- What a token that is kept packed is.
use Rattle.std.proofs.Common.{◌≡◌, ℕ, Bool, true, false, List, ◌∷◌, refl, sym, ap, subst}
use Rattle.std.specs.Prelude.{IsTrue}
use Rattle.bspl_types.specs.Name.{is_name}
use Rattle.bspl_parser.specs.declared.packed_token.Kind.{Kind}
use Rattle.bspl_parser.specs.declared.packed_token.Kind.TheVariants as kind
use Rattle.bspl_parser.specs.declared.packed_token.PackedToken.{PackedToken}
use Rattle.bspl_parser.specs.declared.symbol.Symbol.{Symbol}
use Rattle.bspl_parser.specs.declared.token.Token.{Token}
use Rattle.bspl_parser.specs.declared.token.Token.TheVariants.{Name}
use Rattle.bspl_parser.specs.declared.word.Word.{Word}
use Rattle.bspl_parser.specs.inner.PackedToken.{is_symbol, is_name_kind, packed_bytes, name_token, kind_token, unpacked}
use Rattle.bspl_parser.specs.inner.Scanner.{IsTokenOf}
use Rattle.bspl_parser.specs.inner.TokenParsers.{begins_with, begins_with_name}
use Rattle.bspl_parser.proofs.WordLemmas.{Word_same}

-- a name of these bytes is the token
name_is : (bytes : List ℕ) (offset : ℕ) (w : Word) (b : Bool) (e : is_name bytes ≡ b) → w.text ≡ bytes → w.offset ≡ offset → Name w ≡ name_token bytes b e offset
name_is bytes offset w true e same_text same_offset = ap Name (Word_same w (record { text = bytes; offset = offset; named = e }) same_text same_offset)
name_is bytes offset w false e same_text same_offset = absurd (let name : is_name bytes ≡ true = subst (λ x. is_name x ≡ true) same_text w.named in cc)

-- and what is unpacked
pub name_unpacked : (text : List ℕ) (p : PackedToken) (bytes : List ℕ) (named : IsTrue (is_name bytes)) → p.kind ≡ kind.Name → bytes ≡ packed_bytes text p → Name (record { text = bytes; offset = p.start; named = named }) ≡ unpacked text p
name_unpacked text p bytes named is same_text =
    let w : Word = record { text = bytes; offset = p.start; named = named } in
    let there = packed_bytes text p in
    subst (λ k. Name w ≡ kind_token k there p.start) (sym is) (name_is there p.start w (is_name there) refl same_text refl)

-- a token that is made of a kind is of that kind
name_of_kind : (bytes : List ℕ) (offset : ℕ) (b : Bool) (e : is_name bytes ≡ b) → is_name bytes ≡ true → IsTokenOf kind.Name bytes offset (name_token bytes b e offset)
name_of_kind bytes offset true e named = (refl, refl)
name_of_kind bytes offset false e named = absurd cc

pub is_of_kind : (k : Kind) (bytes : List ℕ) (offset : ℕ) → (k ≡ kind.Name → IsTrue (is_name bytes)) → IsTokenOf k bytes offset (kind_token k bytes offset)
is_of_kind kind.Name bytes offset named = name_of_kind bytes offset (is_name bytes) refl (named refl)
is_of_kind (kind.Fixed s) bytes offset named = refl

-- a name comes first, and no symbol does
name_first : (bytes : List ℕ) (offset : ℕ) (ts : List Token) (s : Symbol) (b : Bool) (e : is_name bytes ≡ b) → is_name bytes ≡ true → (false ≡ begins_with s (name_token bytes b e offset ∷ ts)) × (true ≡ begins_with_name (name_token bytes b e offset ∷ ts))
name_first bytes offset ts s true e named = (refl, refl)
name_first bytes offset ts s false e named = absurd cc

-- a token of that kind comes first
pub kind_first : (k : Kind) (bytes : List ℕ) (offset : ℕ) (ts : List Token) (s : Symbol) → (k ≡ kind.Name → is_name bytes ≡ true) → (is_symbol s k ≡ begins_with s (kind_token k bytes offset ∷ ts)) × (is_name_kind k ≡ begins_with_name (kind_token k bytes offset ∷ ts))
kind_first kind.Name bytes offset ts s named = name_first bytes offset ts s (is_name bytes) refl (named refl)
kind_first (kind.Fixed other) bytes offset ts s named = (refl, refl)
