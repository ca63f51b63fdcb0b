-- The script is that of its text.
use Rattle.std.proofs.Common.{codes}
use Rattle.tool_tests.proofs.mailbox_tests.relay.Goals as goal

pub of-requires : goal.of-requires
of-requires c = record { text = codes "keys 1000\n"; plan = c.in_ok-agents.agents.plan; gives = c.in_ok-agents.ensures.ok }
