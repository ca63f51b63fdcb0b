-- The row of one message more.
use Rattle.std.proofs.Common.{◌++◌, List, ℕ, ap, take, ◌∙◌}
use Rattle.std.specs.List.{flat_map}
use Rattle.bspl_types.specs.declared.protocol.Message.{Message}
use Rattle.html.specs.Fragment.{as_html}
use Rattle.html.specs.Tables.{message_row}
use Rattle.html.proofs.WritingLemmas.{written_next}
use Rattle.html.proofs.messages.push_rows.Goals as goal

pub loop-message-preserved : goal.loop-message-preserved
loop-message-preserved c =
    let x = c.args.x.now in
    let xs = c.args.messages.now in
    let i = c.loop-message.message-index in
    let d = c.message-item.result in
    c.in_ok-push_row.ensures
    ∙ ap (λ (ys : List ℕ). ys ++ as_html (message_row x d)) c.loop-message.invariant
    ∙ ap (λ (m : Message). (c.args.text.now ++ as_html (flat_map (message_row x) (take i xs))) ++ as_html (message_row x m)) c.message-item.is
    ∙ written_next (message_row x) c.args.text.now xs i d c.loop-message-test.true
