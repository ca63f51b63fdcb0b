-- The next name is that of no message that the role sends.
use Rattle.std.proofs.Common.{◌∙◌}
use Rattle.script_text.proofs.MeaningLemmas.{next_sent}
use Rattle.script_text.proofs.order_line.sent_messages.Goals as goal

pub returns-in_default-sent_message : goal.returns-in_default-sent_message
returns-in_default-sent_message c = λ messages sent same.
    let x = c.args.x.now in
    let done = c.loop-name.messages in
    let whole = rw c.in-Some.ensures at c.loop-name.invariant.named in
    let next = next_sent x c.args.role done messages c.in-Some.name.now _ sent (whole ∙ same) in
    c.in_default-sent_message.ensures next.0 next.1 next.2
