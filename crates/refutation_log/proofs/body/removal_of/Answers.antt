-- In version 2 what is read of a removal counts.
use Rattle.refutation_log.proofs.LineLemmas.{two_drop}
use Rattle.refutation_log.proofs.body.removal_of.Goals as goal

pub returns-in-Two : goal.returns-in-Two
returns-in-Two c = two_drop c.args.version c.args.line.now c.drop_of.result c.in-Two.is c.drop_of.ensures
