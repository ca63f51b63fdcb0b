-- The lines as they are read.
use Rattle.formula_text.proofs.AskedLemmas.{asked_read}
use Rattle.formula_text.proofs.asked_laws.question_reads_back.Goals as goal

pub returns : goal.returns
returns c = λ spelling x q f one_line is fits. asked_read spelling x f one_line fits
