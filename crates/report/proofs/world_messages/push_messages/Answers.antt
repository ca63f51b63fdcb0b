-- The line of one message more.
use Rattle.std.proofs.Common.{◌++◌, List, ℕ, ap, arith, ◌∙◌}
use Rattle.report.specs.WorldCounts.{count_of_message}
use Rattle.report.specs.inner.Counts.{counted_line}
use Rattle.report.proofs.MessageLemmas.{message_more}
use Rattle.report.proofs.world_messages.push_messages.Goals as goal

pub loop-message-preserved : goal.loop-message-preserved
loop-message-preserved c =
    let x = c.args.x.now in
    let counts = c.args.counts.now in
    let m = c.loop-message.message in
    c.in_ok-push_message.ensures
    ∙ ap (λ (ys : List ℕ). ys ++ counted_line x m (count_of_message counts m)) c.loop-message.invariant
    ∙ message_more x counts m c.args.text.now (omega arith)
