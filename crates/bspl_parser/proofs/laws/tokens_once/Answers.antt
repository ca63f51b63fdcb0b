-- A text has one list of tokens, or one first bad byte.
use Rattle.bspl_parser.proofs.Unique.{Tokens_unique, bad_unique, bad_has_no_tokens}
use Rattle.bspl_parser.proofs.laws.tokens_once.Goals as goal

pub returns-clause-tokens : goal.returns-clause-tokens
returns-clause-tokens c = Tokens_unique

pub returns-clause-bytes : goal.returns-clause-bytes
returns-clause-bytes c = bad_unique

pub returns-clause-exclusive : goal.returns-clause-exclusive
returns-clause-exclusive c = λ text a ts bad scanned. bad_has_no_tokens text a ts bad scanned
