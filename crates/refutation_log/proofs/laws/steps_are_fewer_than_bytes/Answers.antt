-- Each step has a line of its own.
use Rattle.refutation_log.proofs.StepCount.{steps_in_text}
use Rattle.refutation_log.proofs.laws.steps_are_fewer_than_bytes.Goals as goal

pub returns : goal.returns
returns c = λ text kind log is. steps_in_text text kind log is
