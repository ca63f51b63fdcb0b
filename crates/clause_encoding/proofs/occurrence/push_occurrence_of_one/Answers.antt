-- One kind more.
use Rattle.std.proofs.Common.{arith}
use Rattle.clause_encoding.specs.inner.Occurrence.{occurrence_of_two}
use Rattle.clause_encoding.proofs.AppendsLemmas.{appends_next}
use Rattle.clause_encoding.proofs.occurrence.push_occurrence_of_one.Goals as goal

pub loop-j-preserved : goal.loop-j-preserved
loop-j-preserved c =
    appends_next (occurrence_of_two c.args.vars c.args.i) _ _ _ 1 c.loop-j.j (omega arith) c.loop-j.invariant c.in_ok-push_occurrence_of_two.ensures
