-- A numeral is the numeral of its value.
use Rattle.std.proofs.Common.{◌≡◌, ap, ◌∙◌, arith}
use Rattle.list_base.specs.Numeral.{numeral}
use Rattle.list_base.proofs.Numerals.{value_is, tests_digits}
use Rattle.text_lines.proofs.decimal.read_decimal.Goals as goal

pub value_of-value-requires : goal.value_of-value-requires
value_of-value-requires c = tests_digits _ (c.is_numeral.ensures.0 c.if-not-is_numeral.false)

pub returns-then-value-from : goal.returns-then-value-from
returns-then-value-from c =
    let spelled = c.is_numeral.ensures.0 c.if-not-is_numeral.false in
    let value = value_is c.args.bytes.now spelled.0 spelled.1 in
    let same : spelled.0 ≡ c.value_of-value.result = omega arith in
    (spelled.1 ∙ ap numeral same, omega arith)

pub returns-else-value-from : goal.returns-else-value-from
returns-else-value-from c =
    let spelled = c.is_numeral.ensures.0 c.if-not-is_numeral.false in
    let value = value_is c.args.bytes.now spelled.0 spelled.1 in
    (spelled.0, spelled.1, omega arith)
