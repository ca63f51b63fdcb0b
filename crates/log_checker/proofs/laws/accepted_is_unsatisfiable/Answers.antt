-- What satisfies the clauses satisfies each derived one, and nothing satisfies the empty one.
use Rattle.log_checker.proofs.Soundness.{accepted_unsatisfiable}
use Rattle.log_checker.proofs.laws.accepted_is_unsatisfiable.Goals as goal

pub returns : goal.returns
returns c = λ f log accepts. accepted_unsatisfiable c.resolvents_follow.ensures f log accepts
