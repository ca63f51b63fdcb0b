-- What a line puts is known by its JSON, and means one question.
use Rattle.role_questions.proofs.QuestionLemmas.{no_request_is_put, one_question_is_put}
use Rattle.role_questions.proofs.laws.question_is_one.Goals as goal

pub returns-clause-one : goal.returns-clause-one
returns-clause-one c = one_question_is_put c.spells_once.ensures

pub returns-clause-other : goal.returns-clause-other
returns-clause-other c = no_request_is_put
