-- A text is one question at most, and so arguments are one request.
use Rattle.ask_commands.proofs.RequestLemmas.{one_request}
use Rattle.ask_commands.proofs.laws.asks_once.Goals as goal

pub returns : goal.returns
returns c = one_request (record { tree = c.one_question.ensures.tree; fault = c.one_question.ensures.fault; exclusive = c.one_question.ensures.exclusive })
