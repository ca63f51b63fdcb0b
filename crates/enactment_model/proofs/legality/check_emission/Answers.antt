-- The instance is enabled exactly if its parameters are allowed.
use Rattle.std.proofs.Common.{sym, ap, ◌∙◌, subst}
use Rattle.std.specs.Prelude.{◌↔◌, IfErr, IsOk}
use Rattle.std.specs.List.{All}
use Rattle.std.proofs.lemmas.Option.{get_or_from_slice_get}
use Rattle.bspl_types.specs.Expansion.{no_message}
use Rattle.bspl_types.specs.History.{sender_history}
use Rattle.enactment_model.specs.BadEvent.{IsAllowed, IsFirstReason}
use Rattle.enactment_model.proofs.ReasonLemmas.{enabled_exactly}
use Rattle.enactment_model.proofs.legality.check_emission.Goals as goal

pub returns-clause-exact : goal.returns-clause-exact
returns-clause-exact c =
    let x = c.args.x.now in
    let i = c.args.instance.now in
    let h = sender_history x c.args.before.now i.message in
    let message_is = get_or_from_slice_get x.messages i.message c.at-message.result.now no_message c.at-message.ensures in
    let carried_is = c.as_slice.ensures ∙ sym (ap (λ m. m.carried) message_is) in
    let allowed = subst (λ carried. IsOk c.check_all.result ↔ All (IsAllowed x h i) carried) carried_is c.check_all.ensures.exact in
    let enabled = enabled_exactly x h i c.requires.fits.known in
    (λ ok. enabled.0 (allowed.0 ok), λ is_enabled. allowed.1 (enabled.1 is_enabled))

pub returns-clause-why : goal.returns-clause-why
returns-clause-why c =
    let x = c.args.x.now in
    let i = c.args.instance.now in
    let h = sender_history x c.args.before.now i.message in
    let message_is = get_or_from_slice_get x.messages i.message c.at-message.result.now no_message c.at-message.ensures in
    let carried_is = c.as_slice.ensures ∙ sym (ap (λ m. m.carried) message_is) in
    subst (λ carried. IfErr c.check_all.result (IsFirstReason x h i carried)) carried_is c.check_all.ensures.why
