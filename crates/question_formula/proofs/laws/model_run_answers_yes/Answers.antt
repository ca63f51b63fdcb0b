-- The law on the run of a model, from its lemma.
use Rattle.question_formula.proofs.ModelLemmas.{model_run_answers}
use Rattle.question_formula.proofs.laws.model_run_answers_yes.Goals as goal

pub returns : goal.returns
returns c = model_run_answers c.shared_model_has_run.ensures.legal c.model_shows.ensures c.model_meets_condition.ensures c.yes_exactly_if_met.ensures
