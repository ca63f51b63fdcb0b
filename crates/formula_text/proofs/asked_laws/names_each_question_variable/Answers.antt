-- The numbers of the legend.
use Rattle.std.proofs.Common.{arith}
use Rattle.formula_text.proofs.AskedLemmas.{asked_numbered}
use Rattle.formula_text.proofs.asked_laws.names_each_question_variable.Goals as goal

pub returns : goal.returns
returns c = λ x q f is. asked_numbered x f.vars (omega (arith, is.vars))
