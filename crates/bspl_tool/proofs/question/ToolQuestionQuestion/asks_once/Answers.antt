-- Arguments are one command line at most, which requests one task.
use Rattle.bspl_tool.proofs.OneRequest.{one_request}
use Rattle.bspl_tool.proofs.question.ToolQuestionQuestion.asks_once.Goals as goal

pub returns-clause-once : goal.returns-clause-once
returns-clause-once c = one_request c.one_line.ensures
