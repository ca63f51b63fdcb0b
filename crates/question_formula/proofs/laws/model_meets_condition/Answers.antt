-- The law on the condition of a model, from its lemma.
use Rattle.question_formula.proofs.ModelLemmas.{model_meets}
use Rattle.question_formula.proofs.laws.model_meets_condition.Goals as goal

pub returns : goal.returns
returns c = model_meets c.asserted_is_met.ensures
