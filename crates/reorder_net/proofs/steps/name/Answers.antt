-- The first pass may leave all its lists to one of the named home.
use Rattle.std.proofs.Common.{◌≡◌, sym, subst, ap, ◌∙◌}
use Rattle.crossbeam_queue.specs.Fifo.{Forks}
use Rattle.reorder_net.specs.declared.hold.Hold.{Hold}
use Rattle.reorder_net.specs.Mail.{IsMail}
use Rattle.reorder_net.specs.inner.Moves.{first_hold, named, spent}
use Rattle.reorder_net.proofs.SplitLemmas.{names}
use Rattle.reorder_net.proofs.steps.name.Goals as goal

pub another-requires-clause-rule : goal.another-requires-clause-rule
another-requires-clause-rule g c =
    let is : c.first.inside.seat.me.view.client ≡ first_hold = ap (λ s. s.hold) c.first.view_is ∙ c.requires.view in
    subst (λ (v : Hold). Forks (IsMail g.N.Scene.job) c.first.inside.seat.id v spent (named g.Z.Home.role v)) (sym is) (names _ _ _)
