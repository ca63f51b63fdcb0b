-- What is loose among the events under the key is so in the run.
use Rattle.std.proofs.Common.{inl, inr}
use Rattle.enactment_model.specs.FirstLoose.{IsLoose, IsStillEnabled}
use Rattle.enactment_model.specs.inner.Rest.{IsAtRest}
use Rattle.run_index.specs.inner.Waiting.{IsExhausted}
use Rattle.run_index.proofs.RestLemmas.{match_weaker, rest_from, still_from, unreceived_from}
use Rattle.run_index.proofs.rest.is_loose.Goals as goal

pub returns-then-is_unreceived : goal.returns-then-is_unreceived
returns-then-is_unreceived c = inl (unreceived_from c.args.index.now c.args.key.now c.args.message c.args.events.now c.requires.part c.if-is_unreceived.ensures)

pub returns : goal.returns
returns c =
    let x = c.args.x.now in
    let run = c.args.index.now in
    let key = c.args.key.now in
    let m = c.args.message in
    let events = c.args.events.now in
    match_weaker c.is_still_enabled.result (IsStillEnabled x events key m) (IsExhausted x events key m) (IsLoose x run key m) (IsAtRest x run key m)
    (λ still. inr (still_from x run key m events c.requires.part still))
    (λ exhausted. rest_from x run key m events c.requires.part c.if-is_unreceived.ensures exhausted)
    c.is_still_enabled.ensures
