-- A text has one log or one refusal.
use Rattle.refutation_log.proofs.OneAnswer.{no_fault, one_refusal, same_logs}
use Rattle.refutation_log.proofs.laws.reads_once.Goals as goal

pub returns-clause-logs : goal.returns-clause-logs
returns-clause-logs c = λ text kind other log another one again. same_logs text kind other log another one again

pub returns-clause-refusals : goal.returns-clause-refusals
returns-clause-refusals c = λ text refusal other some any first second. one_refusal text refusal other first second some any

pub returns-clause-exclusive : goal.returns-clause-exclusive
returns-clause-exclusive c = λ text kind log refusal some is first. no_fault text kind log refusal is some first
