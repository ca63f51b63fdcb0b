-- A log that is accepted leaves the formula no model.
use Rattle.dimacs.proofs.decision.proof.Goals as goal

pub returns-in-Ok-clause-none : goal.returns-in-Ok-clause-none
returns-in-Ok-clause-none c = c.accepted_is_unsatisfiable.ensures c.args.formula.now c.args.log.now c.requires.accepted
