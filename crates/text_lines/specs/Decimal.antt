-- What is read of a number in decimal, and what is known of numerals.
use Rattle.std.specs.Prelude.{◌≡◌, ◌≢◌, ℕ, ◌<◌, ◌≤◌, ◌^◌, List, Result, Ok, Err}
use Rattle.std.specs.Fmt.{decimal}
use Rattle.list_base.specs.Numeral.{numeral}
use Rattle.text_lines.specs.declared.decimal.DecimalError.{DecimalError}
use Rattle.text_lines.specs.declared.decimal.DecimalError.TheVariants.{Form, TooLarge}

-- the bytes are a number in decimal, which is within the limit; or they are none, or one above the
-- limit
abbrev pub IsReadUpTo : ℕ → List ℕ → Result ℕ DecimalError → Type 0
IsReadUpTo most bytes (Ok n) = (bytes ≡ numeral n) × (n ≤ most)
IsReadUpTo most bytes (Err Form) = (n : ℕ) → bytes ≢ numeral n
IsReadUpTo most bytes (Err TooLarge) = (n : ℕ) × (bytes ≡ numeral n) × (most < n)

-- up to 64 bits, a numeral is what the standard library writes
abbrev pub NumeralsAreDecimals : Type 0
NumeralsAreDecimals = (n : ℕ) → n < 2 ^ 64 → numeral n ≡ decimal n

-- a numeral is that of one number
abbrev pub NumeralsDiffer : Type 0
NumeralsDiffer = (m n : ℕ) → numeral m ≡ numeral n → m ≡ n
