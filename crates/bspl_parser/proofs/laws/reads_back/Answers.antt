-- The layout of a document spells one document, and that is equal to it but for offsets.
use Rattle.std.proofs.Common.{subst}
use Rattle.bspl_parser.specs.Alike.{AreAlike}
use Rattle.bspl_parser.specs.Layout.{printed}
use Rattle.bspl_parser.proofs.Judgements.{one_document}
use Rattle.bspl_parser.proofs.Printed.{printed_is_read}
use Rattle.bspl_parser.proofs.laws.reads_back.Goals as goal

pub returns-clause-formed : goal.returns-clause-formed
returns-clause-formed c = λ text d of_d. of_d.spelled.formed

pub returns-clause-read : goal.returns-clause-read
returns-clause-read c = printed_is_read

pub returns-clause-alike : goal.returns-clause-alike
returns-clause-alike c = λ d e formed of_e.
    let back = printed_is_read d formed in
    subst (AreAlike d) (one_document (printed d) back.document e back.read of_e) back.alike
