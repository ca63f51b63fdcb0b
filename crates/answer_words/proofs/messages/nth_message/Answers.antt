-- The event is one of the run, whose messages exist.
use Rattle.std.proofs.Common.{◌≡◌, ◌-◌, ◌<◌, length, refl, subst, sym, ap, ◌∙◌, Some, arith}
use Rattle.std.specs.Prelude.{slice_get}
use Rattle.std.proofs.lemmas.List.Elements.{All-contains}
use Rattle.std.proofs.lemmas.Option.{slice_get_read}
use Rattle.bspl_types.specs.declared.event.Event.{Event}
use Rattle.bspl_types.specs.declared.event.Instance.{Instance}
use Rattle.bspl_types.specs.Expansion.{message_of}
use Rattle.bspl_types.specs.History.{instance_of}
use Rattle.bspl_types.specs.Instance.{Fits}
use Rattle.answer_words.specs.Messages.{event_message}
use Rattle.answer_words.proofs.messages.nth_message.Goals as goal

pub message_at-requires : goal.message_at-requires
message_at-requires c =
    let x = c.args.x.now in
    let run = c.args.run.now in
    let within : c.args.n - 1 < length run = omega arith in
    let fits = All-contains (λ (event : Event). Fits x (instance_of event)) run c.index-run-n.result c.requires.fits (c.args.n - 1, within, sym c.index-run-n.is) in
    subst (λ (i : Instance). i.message < length x.messages) (sym c.instance.ensures) fits.known

pub returns : goal.returns
returns c =
    let x = c.args.x.now in
    let run = c.args.run.now in
    let within : c.args.n - 1 < length run = omega arith in
    let at : slice_get run (c.args.n - 1) ≡ Some c.index-run-n.result = slice_get_read run (length run) (c.args.n - 1) c.index-run-n.result refl within c.index-run-n.is in
    c.message_at.ensures ∙ ap (λ (i : Instance). message_of x i.message) c.instance.ensures ∙ sym (ap (event_message x) at)
