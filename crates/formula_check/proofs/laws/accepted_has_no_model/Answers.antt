-- Each status comes by one way.
use Rattle.formula_check.proofs.StatusLemmas.{done_means, refuted_means}
use Rattle.formula_check.proofs.laws.accepted_has_no_model.Goals as goal

pub returns-clause-accepted : goal.returns-clause-accepted
returns-clause-accepted c = λ args input out output. done_means args input out output

pub returns-clause-rejected : goal.returns-clause-rejected
returns-clause-rejected c = λ args input out output. refuted_means c.fails_once.ensures.accepted args input out output
