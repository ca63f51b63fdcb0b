-- One kind more.
use Rattle.clause_encoding.specs.inner.Lacking.{absence_clause}
use Rattle.clause_encoding.proofs.AppendsLemmas.{appends_item_clause}
use Rattle.clause_encoding.proofs.want.push_want.Goals as goal

pub loop-carrier-preserved : goal.loop-carrier-preserved
loop-carrier-preserved c =
    appends_item_clause (absence_clause c.args.lacks) _ _ _ c.as_slice-carrier-items.result.now c.loop-carrier.carrier-index 0 c.loop-carrier-test.true c.loop-carrier.invariant c.in_ok-push_absence.ensures
