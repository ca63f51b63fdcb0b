-- What is read of a number, and which numbers of conflicts and of threads are read.
use Rattle.std.proofs.Common.{◌≡◌, ◌<◌, ℕ, Bool, List, [], ◌∷◌, Err, sym, ◌∙◌, arith}
use Rattle.list_base.specs.Numeral.{numeral}
use Rattle.list_base.proofs.Numerals.{same_from_numeral}
use Rattle.text_lines.specs.Decimal.{IsReadUpTo}
use Rattle.text_lines.specs.declared.decimal.DecimalError.{DecimalError}
use Rattle.text_lines.specs.declared.decimal.DecimalError.TheVariants.{Form, TooLarge}
use Rattle.command_line.specs.Budget.{IsBudget}
use Rattle.command_line.specs.Line.{IsOptionValue}
use Rattle.command_line.specs.Number.{IsNumberIn}
use Rattle.command_line.specs.ThreadCount.{IsThreadCount}

-- a text that is not read is no number in the range
pub not_read : (least most : ℕ) (text : List ℕ) (e : DecimalError) → IsReadUpTo most text (Err e) → (n : ℕ) → ¬ IsNumberIn least most text n
not_read least most text Form none n is = none n is.written
not_read least most text TooLarge read n is =
    let same = same_from_numeral read.0 n (sym read.1 ∙ is.written) in
    let above = read.2 in
    let within = is.high in
    omega (arith, same, above, within)

-- nor is one that is read as a number below it
pub too_low : (least most value : ℕ) (text : List ℕ) → text ≡ numeral value → value < least → (n : ℕ) → ¬ IsNumberIn least most text n
too_low least most value text read below n is =
    let same = same_from_numeral value n (sym read ∙ is.written) in
    let low = is.low in
    omega (arith, same, below, low)

-- a number of conflicts that is chosen may be allowed
pub chosen_budget : (belongs : Bool) (values : List (List ℕ)) (n : ℕ) → IsOptionValue belongs 1 20000 10000 values n → IsBudget n
chosen_budget belongs [] n is = record { least = omega arith; most = omega arith }
chosen_budget belongs (value ∷ []) n chosen = record { least = chosen.0.low; most = chosen.0.high }
chosen_budget belongs (value ∷ other ∷ values) n chosen = absurd chosen

-- a number of threads that is chosen may be given
pub chosen_threads : (belongs : Bool) (values : List (List ℕ)) (n : ℕ) → IsOptionValue belongs 0 8 1 values n → IsThreadCount n
chosen_threads belongs [] n is = omega arith
chosen_threads belongs (value ∷ []) n chosen = chosen.0.high
chosen_threads belongs (value ∷ other ∷ values) n chosen = absurd chosen
