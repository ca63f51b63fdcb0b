-- The law on what is impossible, from its lemma.
use Rattle.question_formula.proofs.ModelLemmas.{impossible}
use Rattle.question_formula.proofs.laws.impossible_without_model.Goals as goal

pub returns : goal.returns
returns c = impossible c.possible_exactly_if_model.ensures c.written_is_satisfied.ensures
