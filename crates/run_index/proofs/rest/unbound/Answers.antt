-- What is bound under the key is bound in the run.
use Rattle.std.proofs.Common.{sym, subst}
use Rattle.enactment_model.specs.FirstUnbound.{IsFirstUnbound}
use Rattle.run_index.specs.inner.Enactment.{HasEventsUnder}
use Rattle.run_index.proofs.PartLemmas.{flipped, part_agrees}
use Rattle.run_index.proofs.RestLemmas.{complete_from, first_unbound_from, if_some_weaker}
use Rattle.run_index.proofs.rest.unbound.Goals as goal

pub returns-clause-none : goal.returns-clause-none
returns-clause-none c =
    let x = c.args.x.now in
    let run = c.args.index.now in
    let key = c.args.key.now in
    let events = c.as_slice.result.now in
    let agree = part_agrees run key events (subst (HasEventsUnder run key) (sym c.as_slice.ensures) c.in_ok-events.ensures) in
    (λ none. complete_from x key events run agree (c.unbound.ensures.none.0 none), λ complete. c.unbound.ensures.none.1 (complete_from x key run events (flipped key events run agree) complete))

pub returns-clause-first : goal.returns-clause-first
returns-clause-first c =
    let x = c.args.x.now in
    let run = c.args.index.now in
    let key = c.args.key.now in
    let events = c.as_slice.result.now in
    let agree = part_agrees run key events (subst (HasEventsUnder run key) (sym c.as_slice.ensures) c.in_ok-events.ensures) in
    if_some_weaker c.unbound.result (IsFirstUnbound x events key) (IsFirstUnbound x run key) (first_unbound_from x key events run agree) c.unbound.ensures.first
