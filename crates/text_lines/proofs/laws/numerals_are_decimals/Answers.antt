-- Both are the digits of the number.
use Rattle.list_base.proofs.Numerals.{numeral_is_decimal}
use Rattle.text_lines.proofs.laws.numerals_are_decimals.Goals as goal

pub returns : goal.returns
returns c = numeral_is_decimal
