-- A message is one more if the role sends it and it is not among the first.
use Rattle.std.proofs.Common.{sym, ◌∙◌}
use Rattle.script_text.proofs.OrderLemmas.{other_more, not_sent, not_new, others_all}
use Rattle.script_text.proofs.orders.other_messages.Goals as goal
use Rattle.script_text.proofs.orders.other_messages.Goals.{then-message-role+then-not-has_message+in_ok-push, else-message-role, else-message-role-via-then-message-role+else-not-has_message, else-message-role-via-else-message-role}

pub loop-index-preserved : goal.loop-index-preserved
loop-index-preserved c =
    let x = c.args.x.now in
    let i = c.loop-index.index in
    let m = c.message-item.result in
    let within = rw c.as_slice-message-items.ensures at c.loop-index-test.true in
    let is_item = rw c.as_slice-message-items.ensures at c.message-item.is in
    elim c.if-message-role.branch [
      | then-message-role+then-not-has_message+in_ok-push w ↦
          let more = other_more x c.args.role c.args.first.now i m within is_item w.if-message-role.true (sym w.has_message.ensures ∙ w.if-not-has_message.true) in
          cc (w.in_ok-push.ensures.ok)
      | else-message-role w ↦ elim w.else-message-role.branch [
        | else-message-role-via-then-message-role+else-not-has_message v ↦
            let same = not_new x c.args.role c.args.first.now i m within is_item v.if-message-role.true (sym v.has_message.ensures ∙ v.if-not-has_message.false) in
            cc
        | else-message-role-via-else-message-role v ↦
            let same = not_sent x c.args.role c.args.first.now i m within is_item v.if-message-role.false in
            cc
      ]
    ]

pub returns : goal.returns
returns c =
    let past = rw c.as_slice-message-items.ensures at c.loop-index-test.false in
    c.loop-index.invariant ∙ others_all c.args.x.now c.args.role c.args.first.now c.loop-index.index past
