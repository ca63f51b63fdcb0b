-- The law, from its lemmas.
use Rattle.question_answer.proofs.TextLemmas.{not_both, one_log, one_refusal}
use Rattle.question_answer.proofs.laws.rests_read_once.Goals as goal

pub returns-clause-logs : goal.returns-clause-logs
returns-clause-logs c = one_log c.reads_once.ensures.logs

pub returns-clause-refusals : goal.returns-clause-refusals
returns-clause-refusals c = one_refusal c.reads_once.ensures.refusals

pub returns-clause-exclusive : goal.returns-clause-exclusive
returns-clause-exclusive c = not_both c.reads_once.ensures.exclusive
