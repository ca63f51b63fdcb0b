-- The law on what is possible, from its lemmas.
use Rattle.question_formula.proofs.ModelLemmas.{possible_exactly}
use Rattle.question_formula.proofs.laws.possible_exactly_if_model.Goals as goal

pub returns : goal.returns
returns c =
    possible_exactly c.condition_variables_exist.ensures c.order_variables_exist.ensures c.assignment_exists.ensures c.reports_show.ensures c.shared_clauses_hold.ensures c.met_is_asserted.ensures c.yes_exactly_if_met.ensures c.shared_model_has_run.ensures.run c.model_run_answers_yes.ensures
