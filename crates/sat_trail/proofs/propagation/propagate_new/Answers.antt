-- The literal that is left is set, which settles the clause.
use Rattle.std.proofs.Common.{◌≡◌, Some, sym, ◌∙◌, subst}
use Rattle.clause_core.specs.Propagation.{LeavesOnly}
use Rattle.sat_trail.specs.Entry.{values_of}
use Rattle.sat_trail.specs.inner.Examination.{IsSettled}
use Rattle.sat_trail.proofs.GrowthLemmas.{Extends-force, IsSettled-force, CanPropagate-exists}
use Rattle.sat_trail.proofs.NumberLemmas.{removed-none}
use Rattle.sat_trail.proofs.propagation.propagate_new.Goals as goal

pub returns-in-Forces-clause-extends : goal.returns-in-Forces-clause-extends
returns-in-Forces-clause-extends c =
    let leaves = subst (λ lits. LeavesOnly (values_of c.args.set.now.entries) lits c.in-Forces.lit) c.lits.ensures.same c.in-Forces.ensures in
    Extends-force _ _ _ c.clause.result.now _ _ _ c.requires.fits.reached c.clause.ensures leaves
    (CanPropagate-exists _ _ _ _ _ _ c.requires.fits c.clause.ensures leaves.among) c.push.ensures

pub returns-in-Forces-clause-settled : goal.returns-in-Forces-clause-settled
returns-in-Forces-clause-settled c clause has =
    let both : Some c.clause.result.now ≡ Some clause = sym c.clause.ensures.there ∙ has.there in
    let same : c.clause.result.now ≡ clause = cc in
    subst (IsSettled (values_of c.push.new.self.entries) (values_of c.push.new.self.entries))
    (c.lits.ensures.same ∙ same)
    (IsSettled-force _ _ _ _ c.args.set.now _ c.in-Forces.ensures c.push.ensures)

pub returns-then-not-is_live-clause-settled : goal.returns-then-not-is_live-clause-settled
returns-then-not-is_live-clause-settled c clause has = absurd (removed-none c.args.store.now c.args.number clause _ c.if-not-is_live.true c.is_live.ensures.1 has)
