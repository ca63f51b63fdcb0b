-- How a value is spelled in a text.
use Rattle.std.specs.Prelude.{◌≡◌, ℕ, nat_le, ◌/◌, ◌%◌, Bool, false, not, ◌==◌, ◌&&◌, ◌||◌}
use Rattle.std.specs.Prelude.{if◌then◌else◌, List, [], ◌∷◌, ◌++◌}
use Rattle.std.specs.Fmt.{decimal, digit_glyph}
use Rattle.std.specs.List.{flat_map}
use Rattle.bspl_types.specs.declared.value.Value.{Value}
use Rattle.bspl_types.specs.declared.value.Value.TheVariants.{Number, Text}
use Rattle.bspl_types.specs.Value.{IsValue}

-- a byte from `!` to `~`, but for `"` and `\`, is spelled as itself
abbrev pub is_plain : ℕ → Bool
is_plain b = (nat_le 33 b && nat_le b 126) && not (b == 34 || b == 92)

-- any other byte is `\` and two lower-case hexadecimal digits
abbrev pub byte_spelling : ℕ → List ℕ
byte_spelling b =
    if is_plain b then b ∷ []
    else 92 ∷ digit_glyph false (b / 16) ∷ digit_glyph false (b % 16) ∷ []

-- a number in decimal; a text between quotes
abbrev pub value_spelling : Value → List ℕ
value_spelling (Number n) = decimal n
value_spelling (Text bytes) = 34 ∷ flat_map byte_spelling bytes ++ 34 ∷ []

-- the field is the spelling of the value
pub record SpellsValue (field : List ℕ) (v : Value) : Type 0 where
  pub value : IsValue v
  pub spelled : field ≡ value_spelling v

-- values of one spelling are equal
abbrev pub ValuesAreSpelledOnce : Type 0
ValuesAreSpelledOnce =
    (v w : Value) → IsValue v → IsValue w → value_spelling v ≡ value_spelling w → v ≡ w
