-- What is written for a stream of lines, and the store after them.
use Rattle.std.specs.Prelude.{◌≡◌, ℕ, Bool, true, false, List}
use Rattle.bspl_types.specs.declared.expanded.Expanded.{Expanded}
use Rattle.kept_lines.specs.Answers.{AnswersLines}
use Rattle.list_base.specs.Lines.{Line, lines_of}
use Rattle.local_store.specs.declared.receipt.Receipt.TheVariants.{Fresh}
use Rattle.local_store.specs.State.{StoreState, new_store}
use Rattle.role_server.specs.Replies.{Replies, held_limit}
use Rattle.wire_form.specs.declared.reply.Reply.{Reply}
use Rattle.wire_form.specs.declared.reply.Reply.TheVariants.{Received, Sent}
use Rattle.wire_form.specs.Reply.{reply_text}

-- the most events of a role that is served
abbrev pub event_limit : ℕ
event_limit = 65536

-- the store of the role before the first line
abbrev pub first_store : Expanded → ℕ → StoreState
first_store x role = record (new_store x role) { spare = event_limit }

-- the reply says that the line made an event: the message was sent, or is received for the first
-- time
abbrev pub tells_event : Reply → Bool
tells_event (Sent m) = true
tells_event (Received Fresh) = true
tells_event reply = false

-- the line gets the text of its reply, and is one to keep if it made an event
pub record ServesLine (s : StoreState) (line : Line) (text : List ℕ) (is_kept : Bool)
    (next : StoreState) : Type 0 where
  pub reply : Reply
  pub replies : Replies held_limit s line reply next
  pub text_is : text ≡ reply_text s.protocol reply
  pub kept_is : is_kept ≡ tells_event reply

-- what is written for the whole input, to a role that begins with this store, and its last store
abbrev pub Served : StoreState → List ℕ → List ℕ → StoreState → Type 0
Served s bytes out end = (acts : List ℕ) × AnswersLines ServesLine s (lines_of bytes) out acts end
