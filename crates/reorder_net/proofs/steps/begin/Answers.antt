-- A new queue's first pass meets the rule.
use Rattle.reorder_net.proofs.SplitLemmas.{begins}
use Rattle.reorder_net.proofs.steps.begin.Goals as goal

pub with_rule-requires : goal.with_rule-requires
with_rule-requires g c = begins _
