-- One more literal of the clause is in.
use Rattle.sat_solver.proofs.GatheringLemmas.{AddsLiterals-more}
use Rattle.sat_solver.proofs.false_lits.FalseLits.insert_all.Goals as goal

pub loop-lit-preserved : goal.loop-lit-preserved
loop-lit-preserved c = record {
  are_false = c.insert.ensures.are_false;
  inserted = AddsLiterals-more c.args.self.now.set.lits c.args.clause.now c.loop-lit.self.set.lits _ _ _ c.loop-lit-test.true c.loop-lit.invariant.inserted c.insert.ensures.inserted;
}
