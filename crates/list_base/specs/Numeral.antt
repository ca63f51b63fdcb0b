-- Numbers in decimal: digits without a sign and without a leading zero.
use Rattle.std.specs.Prelude.{◌≡◌, ℕ, ◌+◌, ◌==◌, if◌then◌else◌, List, map, codes}
use Rattle.std.specs.Int.Digits.{digits_of}

-- a number in decimal: `0`, or its digits from the first that is not 0
unfoldable pub numeral : ℕ → List ℕ
numeral n = if n == 0 then codes "0" else map (λ digit. 48 + digit) (digits_of 10 n)

-- the bytes are a number in decimal, however large
abbrev pub IsNumeral : List ℕ → Type 0
IsNumeral bytes = (n : ℕ) × (bytes ≡ numeral n)
