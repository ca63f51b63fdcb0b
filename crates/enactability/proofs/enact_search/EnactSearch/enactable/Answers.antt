-- A run that was found is the evidence if it is cut so.
use Rattle.std.proofs.Common.{subst}
use Rattle.bspl_types.specs.declared.expanded.Expanded.{Expanded}
use Rattle.enactability.specs.Answer.{IsEnacted}
use Rattle.enactability.proofs.AnswerLemmas.{known_enacted}
use Rattle.enactability.proofs.enact_search.EnactSearch.enactable.Goals as goal

pub returns-in-Some-clause-right : goal.returns-in-Some-clause-right
returns-in-Some-clause-right c =
    let found = rw (c.in-Some.is, c.as_slice.ensures) at c.in_ok-run.ensures in
    subst (λ (x : Expanded). IsEnacted x c.args.message c.in-Some.run') c.self.view_is
    (known_enacted c.cut_enacts.ensures c.self.inside.protocol.now c.args.message c.self.inside.runs c.in-Some.run' c.self.invariant.runs found)
