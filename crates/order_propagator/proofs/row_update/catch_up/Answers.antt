-- Each literal that came since comes after those in the rows.
use Rattle.std.proofs.Common.{◌≡◌, ℕ, Some, slice_get, subst}
use Rattle.order_propagator.proofs.RowLemmas.{lits_of, next-first, next-new}
use Rattle.order_propagator.proofs.row_update.catch_up.Goals as goal

pub push-requires : goal.push-requires
push-requires c = next-new c.args.rows.now.order c.loop-rows.rows c.args.trail.now c.at-lit.result c.requires.sound c.loop-rows.invariant
    (subst (λ (i : ℕ). slice_get (lits_of c.args.trail.now.entries) i ≡ Some c.at-lit.result) c.len-in-loop-rows.ensures c.at-lit.ensures.literal)

pub loop-rows-preserved : goal.loop-rows-preserved
loop-rows-preserved c = rw c.in_ok-push.ensures.ok (next-first c.args.rows.now.order c.loop-rows.rows c.args.trail.now.entries c.at-lit.result c.loop-rows.invariant
    (subst (λ (i : ℕ). slice_get (lits_of c.args.trail.now.entries) i ≡ Some c.at-lit.result) c.len-in-loop-rows.ensures c.at-lit.ensures.literal))
