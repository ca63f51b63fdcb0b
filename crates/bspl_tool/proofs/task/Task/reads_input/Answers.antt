-- Only what is generated has a text of its own.
use Rattle.std.proofs.Common.{refl}
use Rattle.bspl_tool.proofs.OneRequest.{no_own_text}
use Rattle.bspl_tool.proofs.task.Task.reads_input.Goals as goal

pub returns-in_default : goal.returns-in_default
returns-in_default c = (λ on. no_own_text c.args.self.now c.in_default.not-Generate, λ none. refl)
