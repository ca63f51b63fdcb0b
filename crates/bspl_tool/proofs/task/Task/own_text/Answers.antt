-- Only what is generated has a text of its own.
use Rattle.std.proofs.Common.{sym}
use Rattle.bspl_tool.proofs.OneRequest.{no_own_text}
use Rattle.bspl_tool.proofs.task.Task.own_text.Goals as goal

pub returns-in_default-clause-text : goal.returns-in_default-clause-text
returns-in_default-clause-text c = sym (no_own_text c.args.self.now c.in_default.not-Generate)
