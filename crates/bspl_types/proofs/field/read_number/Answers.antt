-- A number of 64 bits in decimal is read, and the standard library writes it in the same way.
use Rattle.std.proofs.Common.{◌≡◌, ◌≢◌, ℕ, ◌<◌, ◌^◌, List, Result, Ok, Err, MatchOption, sym, subst, ◌∙◌, arith, decimal}
use Rattle.std.specs.Result.{result_ok}
use Rattle.text_lines.specs.Decimal.{IsReadUpTo, NumeralsAreDecimals, NumeralsDiffer}
use Rattle.text_lines.specs.declared.decimal.DecimalError.{DecimalError}
use Rattle.text_lines.specs.declared.decimal.DecimalError.TheVariants.{Form, TooLarge}
use Rattle.bspl_types.proofs.field.read_number.Goals as goal

abbrev IsRead : List ℕ → Result ℕ DecimalError → Type 0
IsRead field read = MatchOption (result_ok read) ((n : ℕ) → n < 2 ^ 64 → field ≢ decimal n) (λ n. field ≡ decimal n)

is_read : NumeralsAreDecimals → NumeralsDiffer → (field : List ℕ) (read : Result ℕ DecimalError) → IsReadUpTo 18446744073709551615 field read → IsRead field read
is_read are differ field (Ok n) is = is.0 ∙ are n (omega (arith, is.1))
is_read are differ field (Err Form) none = λ n small is. none n (is ∙ sym (are n small))
is_read are differ field (Err TooLarge) large = λ n small is.
    let same = differ large.0 n (sym large.1 ∙ is ∙ sym (are n small)) in
    absurd (omega (arith, same, large.2))

pub returns : goal.returns
returns c =
    subst (λ o. MatchOption o ((n : ℕ) → n < 2 ^ 64 → c.args.field.now ≢ decimal n) (λ n. c.args.field.now ≡ decimal n)) (sym c.ok.ensures.value)
    (is_read c.numerals_are_decimals.ensures c.numerals_differ.ensures c.args.field.now c.read_decimal.result c.read_decimal.ensures)
