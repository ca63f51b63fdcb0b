-- A number of 64 bits in decimal digits is read as that number.
use Rattle.std.proofs.Common.{◌≡◌, ℕ, ◌^◌, ◌<◌, false, List, [], ◌∷◌, ◌++◌, length, Some, refl, subst, arith, append-nil, lt-ltb, ne_eqb}
use Rattle.std.proofs.lemmas.Float.Parse.{scan_numeral-text_of}
use Rattle.std.proofs.lemmas.Fmt.{decimal_is_IsNumeral}
use Rattle.std.specs.Char.{digit_value}
use Rattle.std.specs.Float.Numeral.{IsWellFormed, Parts, minus, scan_numeral}
use Rattle.std.specs.Prelude.{◌==◌, decimal, slice_index}
use Rattle.std.specs.Str.Parse.{AllDigits, IsNumeral}
use Rattle.serde_json.specs.Data.{unsigned}
use Rattle.serde_json.specs.Read.{number_of}

-- digits alone, as a numeral
abbrev whole_number : List ℕ → Parts
whole_number ds = record { whole = ds; point = false; fraction = []; exponent_negative = false; exponent = []; len = length (ds ++ []) }

-- they are scanned as that
digits_scanned : (ds : List ℕ) → AllDigits 10 ds → scan_numeral ds ≡ whole_number ds
digits_scanned ds all =
    let formed : IsWellFormed (whole_number ds) = record { whole_digits = all; fraction_digits = tt; exponent_digits = tt; no_point = λ _. refl; no_exponent = λ _. refl; len_is = refl } in
    subst (λ (text : List ℕ). scan_numeral text ≡ whole_number ds) (append-nil ds) (scan_numeral-text_of (whole_number ds) formed)

-- they begin with no sign
no_sign : (ds : List ℕ) → IsNumeral 10 ds → (slice_index ds 0 == minus) ≡ false
no_sign [] is = refl
no_sign (d ∷ ds) is = ne_eqb d 45 (λ (same : d ≡ 45). let digit : digit_value d < 10 = is.1.0 in grind arith)

pub decimal_read : (n : ℕ) → n < 2 ^ 64 → number_of (decimal n) ≡ Some (unsigned n)
unfolding number_of
decimal_read n few =
    let is = decimal_is_IsNumeral n few in
    rw (no_sign (decimal n) is.0, digits_scanned (decimal n) is.0.1, lt-ltb 0 (length (decimal n)) is.0.0, append-nil (decimal n), is.1, lt-ltb n (2 ^ 64) few) refl
