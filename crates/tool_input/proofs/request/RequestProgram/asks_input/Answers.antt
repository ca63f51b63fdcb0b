-- What is answered to arguments that ask for no input is right for each input.
use Rattle.tool_input.proofs.Unasked.{unasked_output}
use Rattle.tool_input.proofs.request.RequestProgram.asks_input.Goals as goal

pub returns-then-is_none-clause-unasked : goal.returns-then-is_none-clause-unasked
returns-then-is_none-clause-unasked g c = unasked_output g.Q.Question.interface c.asks_once.ensures.once c.asks_once.ensures.at_once

pub returns-else-is_none-clause-unasked : goal.returns-else-is_none-clause-unasked
returns-else-is_none-clause-unasked g c = unasked_output g.Q.Question.interface c.asks_once.ensures.once c.asks_once.ensures.at_once

pub returns-in-None-clause-unasked : goal.returns-in-None-clause-unasked
returns-in-None-clause-unasked g c = unasked_output g.Q.Question.interface c.asks_once.ensures.once c.asks_once.ensures.at_once
