-- A text has one document, one bad byte or one offset of bad syntax, and only one of the three.
use Rattle.bspl_parser.proofs.Judgements.{one_document, syntax_unique, syntax_has_no_document, syntax_has_no_bad_byte}
use Rattle.bspl_parser.proofs.Unique.{bad_unique, bad_has_no_tokens}
use Rattle.bspl_parser.proofs.laws.answers_once.Goals as goal

pub returns-clause-documents : goal.returns-clause-documents
returns-clause-documents c = one_document

pub returns-clause-bytes : goal.returns-clause-bytes
returns-clause-bytes c = bad_unique

pub returns-clause-tokens : goal.returns-clause-tokens
returns-clause-tokens c = syntax_unique

pub returns-clause-exclusive : goal.returns-clause-exclusive
returns-clause-exclusive c = λ text a b d.
    record {
      first = λ of_d bad. bad_has_no_tokens text a of_d.tokens bad of_d.scanned;
      second = λ of_d bad. syntax_has_no_document text b d bad of_d;
      third = λ byte token. syntax_has_no_bad_byte text b a token byte;
    }
