-- The event's first value is known, if the event is under the key.
use Rattle.std.proofs.Common.{ap, refl, sym, ◌∙◌}
use Rattle.std.specs.List.{zip}
use Rattle.std.proofs.lemmas.Option.{get_or_from_slice_get}
use Rattle.bspl_types.specs.Adornment.{valued}
use Rattle.bspl_types.specs.Expansion.{message_of, no_message}
use Rattle.bspl_types.specs.Instance.{pairs}
use Rattle.role_knowledge.specs.inner.FirstValue.{first_value}
use Rattle.role_knowledge.proofs.ValueLemmas.{known_by_value}
use Rattle.role_knowledge.proofs.knowledge.known_by.Goals as goal

pub returns : goal.returns
returns c =
    let i = c.instance-instance.result.now in
    let message_is = get_or_from_slice_get c.args.x.now.messages i.message c.at-message.result.now no_message c.at-message.ensures in
    let carried_is = c.as_slice.ensures ∙ sym (ap (λ m. m.carried) message_is) in
    let first = c.value_of.ensures ∙ ap (λ carried. first_value (zip (valued carried) c.as_slice-2.result.now) c.args.param) carried_is ∙ ap (λ values. first_value (zip (valued (message_of c.args.x.now i.message).carried) values) c.args.param) c.as_slice-2.ensures.values in
    known_by_value c.args.x.now c.args.event.now c.args.key.now c.args.param
    (ap (λ j. j.key) (sym c.instance-instance.ensures) ∙ c.if-not-same.ensures.exact.0 refl)
    c.value_of.result
    (first ∙ ap (λ j. first_value (pairs c.args.x.now j) c.args.param) c.instance-instance.ensures)
