-- The loop's step, from its lemma.
use Rattle.std.proofs.Common.{◌+◌, take, subst, sym}
use Rattle.stamped_history.specs.inner.Cursors.{IsLowestOf}
use Rattle.stamped_history.proofs.LowestLemmas.{lowest_more}
use Rattle.stamped_history.proofs.cursor.lowest.Goals as goal

pub loop-role-preserved : goal.loop-role-preserved
loop-role-preserved c =
    subst (IsLowestOf (take (c.loop-role.role + 1) c.args.cursors.now)) (sym c.lower-lowest.ensures)
    (lowest_more c.args.cursors.now c.loop-role.role c.index-cursors-role.result c.loop-role.lowest c.loop-role-test.true (sym c.index-cursors-role.is) c.loop-role.invariant)
