-- The parameter is known, with each value that the instance has for it.
use Rattle.std.proofs.Common.{refl}
use Rattle.enactment_model.proofs.ReasonLemmas.{known_allowed}
use Rattle.enactment_model.proofs.legality.check_known.Goals as goal
use Rattle.bspl_types.specs.History.{sender_history}

pub returns-then-knows_each-clause-exact : goal.returns-then-knows_each-clause-exact
returns-then-knows_each-clause-exact c =
    let i = c.args.instance.now in
    (λ _. known_allowed c.args.x.now (sender_history c.args.x.now c.args.before.now i.message) i c.args.c c.requires.adorned (c.in-Some.ensures.exact.0 refl) c.if-knows_each.ensures, λ _. refl)
