-- The replies are those of one role to one list of lines.
use Rattle.agent_commands.proofs.OneServing.{served_once}
use Rattle.agent_commands.proofs.laws.serve_answers_once.Goals as goal

pub returns : goal.returns
returns c = served_once c.names_are_fields.ensures c.replies_are_determined.ensures.replies c.replies_are_determined.ensures.first
