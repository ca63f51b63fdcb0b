-- The text is that of the question that the tree asks.
use Rattle.std.proofs.Common.{◌≡◌, ℕ, List}
use Rattle.more_commands.proofs.formula_command.asked_text.Goals as goal

pub question_formula_text-requires : goal.question_formula_text-requires
question_formula_text-requires c = rw c.expanded.ensures.same at c.in_ok-question.ensures.about
