-- The law on liveness, from its lemma.
use Rattle.question_formula.proofs.LivenessLemmas.{liveness_is_a_question}
use Rattle.question_formula.proofs.laws.liveness_is_a_question.Goals as goal

pub returns : goal.returns
returns c =
    liveness_is_a_question c.legal_by_positions.ensures c.run_emits_once.ensures c.shared_model_has_run.ensures.run c.model_run_answers_yes.ensures c.possible_exactly_if_model.ensures c.bound_exactly_if_sent.ensures
