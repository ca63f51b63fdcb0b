-- One protocol more.
use Rattle.std.proofs.Common.{◌++◌, [], ◌∷◌, sym, ap, ◌∙◌, count_by}
use Rattle.std.proofs.lemmas.List.{map_more}
use Rattle.protocol_limits.specs.Counts.{is_message, own_messages}
use Rattle.protocol_limits.proofs.MessageLemmas.{messages_by_test}
use Rattle.protocol_limits.proofs.weights.own_messages.Goals as goal

pub loop-protocol-preserved : goal.loop-protocol-preserved
loop-protocol-preserved c =
    let p = c.protocol-item.result in
    let own = c.messages_in.ensures ∙ ap (count_by is_message) c.as_slice.ensures ∙ sym (messages_by_test p.body) ∙ ap own_messages c.protocol-item.is in
    c.in_ok-push.ensures.ok ∙ (λ j. c.loop-protocol.invariant j ++ own j ∷ [])
    ∙ sym (map_more own_messages c.args.protocols.now c.loop-protocol.protocol-index p c.loop-protocol-test.true)
