-- A known parameter is not allowed.
use Rattle.std.proofs.Common.{refl}
use Rattle.std.proofs.lemmas.Bool.{false≢true}
use Rattle.bspl_types.specs.Knowledge.{IsKnown}
use Rattle.bspl_types.specs.History.{sender_history}
use Rattle.enactment_model.proofs.ReasonLemmas.{permitted_unknown}
use Rattle.enactment_model.proofs.legality.check_unknown.Goals as goal

pub returns-in-Some-clause-exact : goal.returns-in-Some-clause-exact
returns-in-Some-clause-exact c =
    let i = c.args.instance.now in
    let known = IsKnown c.args.x.now (sender_history c.args.x.now c.args.before.now i.message) i.key c.args.c.param in
    (λ wrong. absurd (false≢true wrong), λ allowed. absurd (permitted_unknown c.args.c.adornment known c.requires.adorned allowed.permitted (c.in-Some.ensures.exact.0 refl)))
