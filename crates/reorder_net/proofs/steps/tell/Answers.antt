-- A gathered pass may take, and the rule says the same of it whether there was an envelope or not.
use Rattle.std.proofs.Common.{sym, subst}
use Rattle.reorder_net.specs.Pass.{PassState}
use Rattle.reorder_net.specs.inner.Moves.{IsGathered}
use Rattle.reorder_net.proofs.QueueLemmas.{tells, tells_at_pop}
use Rattle.reorder_net.proofs.steps.tell.Goals as goal

pub pop_as-requires-clause-rule : goal.pop_as-requires-clause-rule
pop_as-requires-clause-rule g c =
    let gathered : IsGathered c.pass.inside.seat.me.view.client = subst (λ (s : PassState). IsGathered s.hold) (sym c.pass.view_is) c.requires.gathered in
    (tells_at_pop _ _ _ gathered, tells _ _ _ gathered)
