-- Two entries of one body are one.
use Rattle.role_journal.proofs.OneBody.{one_body}
use Rattle.role_journal.proofs.laws.bodies_are_distinct.Goals as goal

pub returns : goal.returns
returns c = λ x e f admitted entry other same. one_body x e f admitted entry other same
