-- Both verdicts are right.
use Rattle.more_commands.proofs.VerdictLemmas.{done_true}
use Rattle.more_commands.proofs.laws.done_answers_are_true.Goals as goal

pub returns : goal.returns
returns c = λ brief budget x out is. done_true x budget is.verdicts is.answer.right is.ends
