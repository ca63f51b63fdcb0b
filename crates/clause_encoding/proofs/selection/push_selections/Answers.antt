-- One pair of rivals more.
use Rattle.std.proofs.Common.{◌+◌}
use Rattle.clause_encoding.specs.Rivals.{selected_is_sent}
use Rattle.clause_encoding.proofs.AppendsLemmas.{appends_numbered}
use Rattle.clause_encoding.proofs.selection.push_selections.Goals as goal

pub loop-n-preserved : goal.loop-n-preserved
loop-n-preserved c =
    appends_numbered selected_is_sent _ _ _ (c.args.kinds + 1) c.args.rivals.now c.loop-n.n (record { param = 0; first = 0; second = 0 }) c.loop-n-test.true c.loop-n.invariant c.in_ok-push_selection.ensures
