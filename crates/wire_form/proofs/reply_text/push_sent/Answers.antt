-- The text of what was sent.
use Rattle.std.proofs.Common.{[], ◌∷◌, ◌++◌, ap, ◌∙◌}
use Rattle.std.proofs.lemmas.Result.{on_ok_weaker}
use Rattle.serde_json.specs.Written.{compact_text}
use Rattle.wire_form.specs.Reply.{message_data}
use Rattle.wire_form.proofs.WritingLemmas.{sent_text}
use Rattle.wire_form.proofs.reply_text.push_sent.Goals as goal

pub returns : goal.returns
returns c =
    let text = c.args.text.now in
    let sent = message_data c.args.x.now c.args.message.now in
    on_ok_weaker c.push.result (λ e. e ∙ ap (λ t. t ++ 125 ∷ []) (c.in_ok-push_message.ensures ∙ ap (λ t. t ++ compact_text sent) c.in_ok-append.ensures.ok) ∙ sent_text text sent) c.push.ensures.ok
