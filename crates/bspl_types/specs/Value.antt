-- When two values, and two lists of values, are equal, and what a value can be.
use Rattle.std.specs.Prelude.{◌≡◌, ◌↔◌, IsTrue, Bool, false, ◌==◌, ◌<◌, ◌^◌, List, nat_eq}
use lib.Pointwise.{pointwise}
use Rattle.bspl_types.specs.declared.value.Value.{Value}
use Rattle.bspl_types.specs.declared.value.Value.TheVariants.{Number, Text}
use Rattle.bspl_types.specs.Text.{IsTextValue}

-- the same number, or the same bytes; a number is never equal to a text
abbrev pub same_value : Value → Value → Bool
same_value (Number a) (Number b) = a == b
same_value (Text a) (Text b) = pointwise nat_eq a b
same_value (Number a) (Text b) = false
same_value (Text a) (Number b) = false

-- as long, and equal index by index
abbrev pub equal_values : List Value → List Value → Bool
equal_values as' bs = pointwise same_value as' bs

-- equal values are one value
abbrev pub SameValuesAreOne : Type 0
SameValuesAreOne = (v w : Value) → IsTrue (same_value v w) ↔ (v ≡ w)

-- and equal lists of values are one list
abbrev pub EqualValuesAreOne : Type 0
EqualValuesAreOne = (xs ys : List Value) → IsTrue (equal_values xs ys) ↔ (xs ≡ ys)

-- a number of 64 bits, or such a text
abbrev pub IsValue : Value → Type 0
IsValue (Number n) = n < 2 ^ 64
IsValue (Text bytes) = IsTextValue bytes
