-- The arguments of each command are read in one way.
use Rattle.more_commands.proofs.RequestLemmas.{at_once_is_refused_alike, long_is_refused_alike, one_task}
use Rattle.more_commands.proofs.question.MoreQuestionQuestion.asks_once.Goals as goal

pub returns-clause-once : goal.returns-clause-once
returns-clause-once c = one_task c.asks_once.ensures.once c.asks_once-2.ensures (record { tree = c.one_question.ensures.tree; fault = c.one_question.ensures.fault; exclusive = c.one_question.ensures.exclusive })

pub returns-clause-alike : goal.returns-clause-alike
returns-clause-alike c = long_is_refused_alike

pub returns-clause-at_once : goal.returns-clause-at_once
returns-clause-at_once c = at_once_is_refused_alike
