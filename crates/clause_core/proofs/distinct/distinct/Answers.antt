-- The literals that were passed are kept, each once.
use Rattle.clause_core.proofs.DistinctLemmas.{passed_below, passes_next, passed_all}
use Rattle.clause_core.proofs.distinct.distinct.Goals as goal

pub add-requires-clause-none_above : goal.add-requires-clause-none_above
add-requires-clause-none_above c =
    passed_below _ _ _ _ c.loop-lit-test.true c.requires c.loop-lit.invariant

pub loop-lit-preserved : goal.loop-lit-preserved
loop-lit-preserved c =
    passes_next _ _ _ _ _ c.loop-lit-test.true c.in_ok-add.ensures c.loop-lit.invariant

pub returns-clause-members : goal.returns-clause-members
returns-clause-members c = passed_all _ _ _ c.loop-lit-test.false c.loop-lit.invariant
