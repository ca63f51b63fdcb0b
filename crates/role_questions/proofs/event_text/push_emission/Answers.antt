-- What was sent and to whom.
use Rattle.std.proofs.Common.{[], ◌∷◌, ◌++◌, codes, ap, ap₂, ◌∙◌}
use Rattle.std.proofs.lemmas.Result.{on_ok_weaker}
use Rattle.json.specs.Print.{quoted}
use Rattle.serde_json.specs.Written.{compact_text}
use Rattle.bspl_types.specs.Expansion.{message_of, role_name}
use Rattle.wire_form.specs.Reply.{message_data}
use Rattle.role_questions.proofs.WrittenLemmas.{emission_text}
use Rattle.role_questions.proofs.event_text.push_emission.Goals as goal

pub returns : goal.returns
returns c =
    let text = c.args.text.now in
    let x = c.args.x.now in
    let m = c.args.message.now in
    let sent = message_data x m in
    let message = c.in_ok-push_message.ensures ∙ ap (λ t. t ++ compact_text sent) c.in_ok-append.ensures.ok in
    let to = ap₂ (λ t n. t ++ quoted n) (c.in_ok-append-2.ensures.ok ∙ ap (λ t. t ++ codes ",\"to\":") message) c.receiver_name.ensures in
    on_ok_weaker c.push.result (λ e. e ∙ ap (λ t. t ++ 125 ∷ []) (c.in_ok-push_quoted.ensures ∙ to)
    ∙ emission_text text (role_name x (message_of x m.instance.message).receiver) sent) c.push.ensures.ok
