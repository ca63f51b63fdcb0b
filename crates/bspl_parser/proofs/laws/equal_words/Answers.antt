-- Words of one text and one offset are equal.
use Rattle.bspl_parser.proofs.WordLemmas.{Word_same}
use Rattle.bspl_parser.proofs.laws.equal_words.Goals as goal

pub returns : goal.returns
returns c = Word_same
