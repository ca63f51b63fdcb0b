-- A pass with a list may leave its first one to a new pass.
use Rattle.std.proofs.Common.{◌<◌, length, sym, subst}
use Rattle.reorder_net.specs.Pass.{PassState}
use Rattle.reorder_net.proofs.SplitLemmas.{deals}
use Rattle.reorder_net.proofs.steps.part.Goals as goal

pub another-requires-clause-rule : goal.another-requires-clause-rule
another-requires-clause-rule g c = deals _ _ _ (subst (λ (s : PassState). 0 < length s.hold.puts) (sym c.pass.view_is) c.requires.some)
