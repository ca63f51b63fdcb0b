-- A pass may take in the lists of one that follows it.
use Rattle.std.proofs.Common.{sym, subst}
use Rattle.reorder_net.specs.Mail.{IsHolding}
use Rattle.reorder_net.specs.Pass.{PassState}
use Rattle.reorder_net.specs.inner.Moves.{Follows}
use Rattle.reorder_net.proofs.JoinLemmas.{merges}
use Rattle.reorder_net.proofs.steps.join.Goals as goal

pub absorb-requires-clause-rule : goal.absorb-requires-clause-rule
absorb-requires-clause-rule g c = merges _ _ _ _ _
    (subst (λ (s : PassState). IsHolding s.hold) (sym c.pass.view_is) c.requires.holding)
    (subst (λ (s : PassState × PassState). Follows s.1.hold s.0.hold) (λ i. (sym c.other.view_is i, sym c.pass.view_is i)) c.requires.next)
