-- One parameter more.
use Rattle.clause_encoding.specs.Families.{fresh_clauses_of}
use Rattle.clause_encoding.proofs.AppendsLemmas.{appends_item}
use Rattle.clause_encoding.proofs.freshness.push_freshness_of.Goals as goal

pub loop-param-preserved : goal.loop-param-preserved
loop-param-preserved c =
    appends_item (fresh_clauses_of c.args.x.now c.args.vars c.args.m) _ _ _ c.as_slice-param-items.result.now c.loop-param.param-index 0 c.loop-param-test.true c.loop-param.invariant c.in_ok-push_freshness_for.ensures
