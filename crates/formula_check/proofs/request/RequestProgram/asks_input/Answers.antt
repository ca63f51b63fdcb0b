-- No arguments ask for the input, and invalid ones do not.
use Rattle.formula_check.proofs.ReplyLemmas.{unasked_output}
use Rattle.formula_check.proofs.request.RequestProgram.asks_input.Goals as goal

pub returns-clause-unasked : goal.returns-clause-unasked
returns-clause-unasked c = unasked_output
