-- The fields of a line have no LF, so that a line of fields is one line.
use Rattle.std.proofs.Common.{◌≡◌, ℕ, ◌+◌, ◌/◌, ◌%◌, zero, suc, false, List, [], ◌∷◌, map, codes, slice_index_or, eqb, refl, arith}
use Rattle.std.specs.Prelude.{IsTrue}
use Rattle.std.specs.Fmt.{digit_glyph}
use Rattle.std.specs.Int.Digits.{digits_of}
use Rattle.std.specs.List.{All, flat_map, join_with_byte, list_any}
use Rattle.std.proofs.lemmas.Bool.{cond_both, ne_eqb, or_from, or_parts}
use Rattle.std.proofs.lemmas.List.Elements.{All-head, All-tail}
use Rattle.bspl_types.specs.declared.value.Value.{Value}
use Rattle.bspl_types.specs.declared.value.Value.TheVariants.{Number, Text}
use Rattle.bspl_types.specs.Name.{is_name}
use Rattle.bspl_types.specs.ValueSpelling.{byte_spelling, is_plain, value_spelling}
use Rattle.refutation_log.specs.LogText.{line_of}
use Rattle.list_base.specs.Numeral.{numeral}
use Rattle.bspl_tool.proofs.ClaimsNothing.{IsBlock, IsField, claims, closed, line_claims_nothing}
use Rattle.bspl_tool.proofs.NameBytes.{name_has_no_lf, name_is_field, passes}
use Rattle.bspl_tool.proofs.Unbroken.{decimal_has_no_lf, digit_is_no_lf, has_lf, joined_has_none}

-- the glyphs of digits
glyphs_have_no_lf : (ds : List ℕ) → has_lf (map (λ digit. 48 + digit) ds) ≡ false
glyphs_have_no_lf [] = refl
glyphs_have_no_lf (d ∷ ds) = or_from (eqb (48 + d) 10) (has_lf (map (λ digit. 48 + digit) ds)) (ne_eqb (48 + d) 10 (λ is. omega arith)) (glyphs_have_no_lf ds)

-- a number of a log
pub numeral_has_no_lf : (n : ℕ) → has_lf (numeral n) ≡ false
unfolding numeral
numeral_has_no_lf n = cond_both (eqb n 0) (codes "0") (map (λ digit. 48 + digit) (digits_of 10 n)) (λ text. has_lf text ≡ false) (λ _. refl) (λ _. glyphs_have_no_lf (digits_of 10 n))

-- a byte of a text, as it is spelled
byte_has_no_lf : (b : ℕ) → has_lf (byte_spelling b) ≡ false
byte_has_no_lf b =
    let one = digit_glyph false (b / 16) in
    let other = digit_glyph false (b % 16) in
    cond_both (is_plain b) (b ∷ []) (92 ∷ one ∷ other ∷ []) (λ text. has_lf text ≡ false)
    (λ plain. or_from (eqb b 10) false (passes is_plain b 10 plain refl) refl)
    (λ _. or_from (eqb one 10) (has_lf (other ∷ [])) (ne_eqb one 10 (digit_is_no_lf (b / 16))) (or_from (eqb other 10) false (ne_eqb other 10 (digit_is_no_lf (b % 16))) refl))

-- all of them
bytes_have_no_lf : (bytes : List ℕ) → has_lf (flat_map byte_spelling bytes) ≡ false
bytes_have_no_lf [] = refl
bytes_have_no_lf (b ∷ bytes) = joined_has_none 10 (byte_spelling b) (flat_map byte_spelling bytes) (byte_has_no_lf b) (bytes_have_no_lf bytes)

-- a value
pub value_has_no_lf : (v : Value) → has_lf (value_spelling v) ≡ false
value_has_no_lf (Number n) = decimal_has_no_lf n
value_has_no_lf (Text bytes) = joined_has_none 10 (34 ∷ flat_map byte_spelling bytes) (34 ∷ []) (bytes_have_no_lf bytes) refl

-- the name at an index; past the last one it has no bytes
pub indexed_has_no_lf : {X : Type 0} (name : X → List ℕ) (none : X) → has_lf (name none) ≡ false → (items : List X) → All (λ x. IsTrue (is_name (name x))) items → (k : ℕ) → has_lf (name (slice_index_or items k none)) ≡ false
indexed_has_no_lf name none bare [] named k = bare
indexed_has_no_lf name none bare (x ∷ items) named zero = name_has_no_lf (name x) (All-head (λ y. IsTrue (is_name (name y))) x items named)
indexed_has_no_lf name none bare (x ∷ items) named (suc k) = indexed_has_no_lf name none bare items (All-tail (λ y. IsTrue (is_name (name y))) x items named) k

-- so it is one field of a line
pub indexed_is_field : {X : Type 0} (name : X → List ℕ) (none : X) → IsField (name none) → (items : List X) → All (λ x. IsTrue (is_name (name x))) items → (k : ℕ) → IsField (name (slice_index_or items k none))
indexed_is_field name none bare [] named k = bare
indexed_is_field name none bare (x ∷ items) named zero = name_is_field (name x) (All-head (λ y. IsTrue (is_name (name y))) x items named)
indexed_is_field name none bare (x ∷ items) named (suc k) = indexed_is_field name none bare items (All-tail (λ y. IsTrue (is_name (name y))) x items named) k

-- fields without an LF, with a space between each two
pub joined_fields : (fields : List (List ℕ)) → list_any has_lf fields ≡ false → has_lf (join_with_byte 32 fields) ≡ false
joined_fields [] none = refl
joined_fields (field ∷ []) none = (or_parts (has_lf field) false none).0
joined_fields (field ∷ next ∷ fields) none =
    let parts = or_parts (has_lf field) (list_any has_lf (next ∷ fields)) none in
    joined_has_none 10 field (32 ∷ join_with_byte 32 (next ∷ fields)) parts.0 (joined_fields (next ∷ fields) parts.1)

-- so a line of such fields that does not begin as a claim is one line that claims nothing
pub fields_are_block : (fields : List (List ℕ)) → list_any has_lf fields ≡ false → claims (line_of fields) ≡ false → IsBlock (line_of fields)
fields_are_block fields none other = record {
  nothing = line_claims_nothing (join_with_byte 32 fields) (joined_fields fields none) other;
  whole = closed (join_with_byte 32 fields) refl;
}
