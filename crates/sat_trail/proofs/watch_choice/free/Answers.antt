-- The literals are passed one by one.
use Rattle.sat_trail.proofs.ChoiceLemmas.{AreNotFree-more, AreNotFree-all}
use Rattle.sat_trail.proofs.watch_choice.free.Goals as goal

pub loop-lit-preserved : goal.loop-lit-preserved
loop-lit-preserved c = AreNotFree-more _ _ _ _ _ _ c.loop-lit-test.true c.loop-lit.invariant c.if-is_free.ensures.no

pub returns-clause-none : goal.returns-clause-none
returns-clause-none c = AreNotFree-all _ _ _ _ _ c.loop-lit-test.false c.loop-lit.invariant
