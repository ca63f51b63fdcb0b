-- The last digit follows those of a tenth of the number.
use Rattle.std.proofs.Common.{◌≡◌, ◌+◌, ◌/◌, ◌%◌, [], ◌∷◌, ◌++◌}
use Rattle.std.proofs.lemmas.List.{append_assoc}
use Rattle.list_base.specs.Numeral.{numeral}
use Rattle.list_base.proofs.Numerals.{numeral_digit, numeral_more}
use Rattle.text_lines.proofs.decimal.+push_decimal.Goals as goal

pub returns-then-number-lt10 : goal.returns-then-number-lt10
returns-then-number-lt10 t c = rw (numeral_digit c.args.number c.if-number-lt10.true) c.push.ensures.ok

pub returns : goal.returns
returns t c =
    let n = c.args.number in
    let front : c.push_decimal.new.text ≡ c.args.text.now ++ numeral (n / 10) = c.in_ok-push_decimal.ensures in
    rw (numeral_more n c.if-number-lt10.false, ← append_assoc c.args.text.now (numeral (n / 10)) ((48 + n % 10) ∷ []), ← front) c.push-2.ensures.ok
