-- A line that is not read is refused by a live role.
use Rattle.std.proofs.Common.{refl}
use Rattle.kept_lines.specs.Answers.{LeavesUnread}
use Rattle.local_store.specs.State.{StoreState}
use Rattle.role_server.specs.Live.{LiveReplies}
use Rattle.role_server.specs.Replies.{nothing}
use Rattle.role_server.specs.inner.Unread.{unread_asks}
use Rattle.wire_form.specs.declared.reply.Refusal.TheVariants.{F1}
use Rattle.wire_form.specs.declared.reply.Reply.TheVariants.{Refused}
use Rattle.wire_form.specs.Reply.{reply_text}

-- it is not kept, and changes nothing
pub live_unread : LeavesUnread LiveReplies (λ (s : StoreState). reply_text s.protocol (Refused F1))
live_unread s line unread = record {
  reply = Refused F1;
  after = s;
  replies = nothing (unread_asks line unread) refl refl;
  text_is = refl;
  kept_is = refl;
  next_is = refl;
}
