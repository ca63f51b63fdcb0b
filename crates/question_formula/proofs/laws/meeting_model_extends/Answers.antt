-- The law on an assignment that meets the condition, from its lemma.
use Rattle.question_formula.proofs.ExtensionLemmas.{meeting_model_extends}
use Rattle.question_formula.proofs.laws.meeting_model_extends.Goals as goal

pub returns : goal.returns
returns c =
    meeting_model_extends c.condition_variables_exist.ensures c.order_variables_exist.ensures c.assignment_exists.ensures c.reports_show.ensures c.shared_clauses_hold.ensures c.met_is_asserted.ensures c.yes_exactly_if_met.ensures c.shared_model_has_run.ensures.run c.model_shows.ensures
