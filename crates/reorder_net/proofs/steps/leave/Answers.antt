-- A pass that takes may leave what was taken to a new one.
use Rattle.std.proofs.Common.{◌≡◌, true, sym, subst}
use Rattle.reorder_net.specs.Pass.{PassState}
use Rattle.reorder_net.proofs.SplitLemmas.{leaves}
use Rattle.reorder_net.proofs.steps.leave.Goals as goal

pub another-requires-clause-rule : goal.another-requires-clause-rule
another-requires-clause-rule g c = leaves _ _ _ (subst (λ (s : PassState). s.hold.takes ≡ true) (sym c.pass.view_is) c.requires.takes)
