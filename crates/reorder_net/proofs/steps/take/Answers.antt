-- A pass that takes may take what is at the front.
use Rattle.std.proofs.Common.{◌≡◌, true, sym, subst}
use Rattle.reorder_net.specs.Pass.{PassState}
use Rattle.reorder_net.proofs.QueueLemmas.{pops}
use Rattle.reorder_net.proofs.steps.take.Goals as goal

pub pop_as-requires-clause-rule : goal.pop_as-requires-clause-rule
pop_as-requires-clause-rule g c = (pops _ _ _ (subst (λ (s : PassState). s.hold.takes ≡ true) (sym c.pass.view_is) c.requires.takes), λ items views rule at. tt)
