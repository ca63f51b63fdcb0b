-- Arguments that were found to be no command line request no task.
use Rattle.bspl_tool.proofs.question.ToolQuestionQuestion.asked.Goals as goal

pub returns-in-Ok-None : goal.returns-in-Ok-None
returns-in-Ok-None c = λ has. (rw c.in-Ok-None.field-0-is at c.in-Ok-None.ensures) has.2.line has.2.is_line
