-- The page of the agents that the part gives.
use Rattle.std.proofs.Common.{rules}
use Rattle.more_commands.proofs.PageLemmas.{agents_shown}
use Rattle.more_commands.proofs.page_command.page_beside.Goals as goal

pub of-requires : goal.of-requires
of-requires c = record { text = c.in-Ok-needed_part.part.now; plan = c.in_ok-agents.agents.plan; gives = search rules }

pub returns-in-Ok-needed_part-clause-ok : goal.returns-in-Ok-needed_part-clause-ok
returns-in-Ok-needed_part-clause-ok c =
    let agents = c.in_ok-agents.agents in
    agents_shown c.args.protocol c.args.input.now c.in-Ok-needed_part.part.now c.args.rules.now.rules agents.script agents.plan c.in_ok-page_with_agents.field-0 c.in-Ok-needed_part.ensures.ok (search rules) (rw c.of.ensures at c.in_ok-page_with_agents.ensures)
