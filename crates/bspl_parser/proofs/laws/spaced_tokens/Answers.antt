-- Words with one space between each two are read as tokens of these words.
use Rattle.bspl_parser.proofs.SeparatedWords.{separated_scanned}
use Rattle.bspl_parser.proofs.laws.spaced_tokens.Goals as goal

pub returns : goal.returns
returns c = separated_scanned
