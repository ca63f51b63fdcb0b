-- Valid arguments ask for the input, and invalid ones do not.
use Rattle.dimacs.proofs.ReplyLemmas.{asks_with_options, unasked_output}
use Rattle.dimacs.proofs.request.RequestProgram.asks_input.Goals as goal

pub returns-clause-exact : goal.returns-clause-exact
returns-clause-exact c = λ args request. asks_with_options args c.args.self.now.options c.is_some.result c.is_some.ensures request

pub returns-clause-unasked : goal.returns-clause-unasked
returns-clause-unasked c = unasked_output
