-- Each step has a line of its own.
use Rattle.refutation_log.proofs.StepCount.{steps_in_log}
use Rattle.refutation_log.proofs.laws.steps_have_lines.Goals as goal

pub returns : goal.returns
returns c = steps_in_log
