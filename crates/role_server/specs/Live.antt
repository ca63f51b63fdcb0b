-- What a role writes for lines that are kept, without an end.
use Rattle.std.specs.Prelude.{◌≡◌, ℕ, ◌-◌, Bool, if◌then◌else◌, List, length}
use Rattle.bspl_types.specs.declared.expanded.Expanded.{Expanded}
use Rattle.list_base.specs.Lines.{Line}
use Rattle.local_store.specs.State.{StoreState, new_store}
use Rattle.role_server.specs.Replies.{Replies}
use Rattle.role_server.specs.Served.{tells_event}
use Rattle.wire_form.specs.declared.reply.Reply.{Reply}
use Rattle.wire_form.specs.Reply.{reply_text}

-- the most events of a live role, and the most keys: as many as its counters count
abbrev pub live_limit : ℕ
live_limit = 4294967295

-- the store, with each event spare that may still come
abbrev pub with_live_room : StoreState → StoreState
with_live_room s = record s { spare = live_limit - length s.entries }

-- the store of a live role before the first line
abbrev pub first_live_store : Expanded → ℕ → StoreState
first_live_store x role = with_live_room (new_store x role)

-- the store after a reply: that after the act if the reply tells of an event, or else this one
abbrev pub next_store : StoreState → Reply → StoreState → StoreState
next_store s reply after = if tells_event reply then after else s

-- the line gets this reply, and leaves the store, without its key, if it makes no event
pub record RepliesLive (s : StoreState) (line : Line) (reply : Reply) (next : StoreState)
    : Type 0 where
  pub after : StoreState
  pub replies : Replies live_limit s line reply after
  pub next_is : next ≡ next_store s reply after

-- the line gets the text of its reply; one that makes an event is kept, and each other leaves the
-- store as it was, without its key
pub record LiveReplies (s : StoreState) (line : Line) (text : List ℕ) (is_kept : Bool)
    (next : StoreState) : Type 0 where
  pub reply : Reply
  pub after : StoreState
  pub replies : Replies live_limit s line reply after
  pub text_is : text ≡ reply_text s.protocol reply
  pub kept_is : is_kept ≡ tells_event reply
  pub next_is : next ≡ (if is_kept then after else s)
