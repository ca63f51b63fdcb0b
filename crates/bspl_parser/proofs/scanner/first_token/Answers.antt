-- The token that is found ends within the bytes.
use Rattle.bspl_parser.proofs.ScanSteps.{first_within}
use Rattle.bspl_parser.proofs.scanner.first_token.Goals as goal

pub returns-clause-within : goal.returns-clause-within
returns-clause-within c = first_within c.args.bytes.now c.word_or_mark.result c.word_or_mark.ensures
