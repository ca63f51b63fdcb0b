-- At level 0 each entry has a reason, and nothing is left at its start.
use Rattle.std.proofs.Common.{arith}
use Rattle.std.proofs.lemmas.Result.{IfOk-weaker}
use Rattle.sat_solver.specs.inner.Analysis.{Refuted}
use Rattle.sat_solver.specs.inner.Gathered.{IsDerivationOf}
use Rattle.sat_solver.proofs.UipLemmas.{HasReason-0, Refuted-end}
use Rattle.sat_solver.proofs.analysis.derive_empty.Goals as goal

pub step-requires-clause-reason : goal.step-requires-clause-reason
step-requires-clause-reason c = HasReason-0 c.args.trail.now c.loop-position.lits.set.lits _ c.is_trail.ensures c.requires.at_0

pub returns-clause-refuted : goal.returns-clause-refuted
returns-clause-refuted c =
    let of_lits = rw c.as_slice.ensures.same at c.derived.ensures in
    IfOk-weaker c.derived.result (IsDerivationOf c.loop-position.chain c.loop-position.lits.set.lits) (λ d. Refuted c.args.trail.now c.args.number d.chain d.clause)
    (Refuted-end c.equal_members.ensures c.args.trail.now c.args.number c.loop-position.position c.loop-position.chain c.loop-position.lits (omega (arith, c.loop-position-test.false)) c.loop-position.invariant) of_lits
