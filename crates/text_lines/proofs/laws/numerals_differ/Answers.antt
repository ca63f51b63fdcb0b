-- A numeral has one value.
use Rattle.list_base.proofs.Numerals.{same_from_numeral}
use Rattle.text_lines.proofs.laws.numerals_differ.Goals as goal

pub returns : goal.returns
returns c = same_from_numeral
