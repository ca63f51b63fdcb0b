-- The literals that were passed are taken back.
use Rattle.std.proofs.Common.{◌∙◌}
use Rattle.sat_trail.proofs.FlatLemmas.{taken_back}
use Rattle.sat_trail.proofs.flat_clauses.append.Goals as goal

pub returns-in-Err-clause-err : goal.returns-in-Err-clause-err
returns-in-Err-clause-err c = taken_back _ _ _ _ _ (c.len-start.ensures ∙ c.args.lits.now.ok.0) (c.in-Err.ensures.items ∙ c.loop-lit.invariant) c.truncate.ensures.items
