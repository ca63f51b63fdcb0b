-- What a live role replies to a line that may put a question.
use Rattle.std.specs.Prelude.{◌≡◌, ℕ, Bool, false, List}
use Rattle.list_base.specs.Lines.{Line}
use Rattle.local_store.specs.State.{StoreState}
use Rattle.role_server.specs.Live.{LiveReplies}
use Rattle.wire_form.specs.declared.reply.Refusal.TheVariants.{F2}
use Rattle.wire_form.specs.declared.reply.Reply.TheVariants.{Refused}
use Rattle.wire_form.specs.Reply.{reply_text}
use Rattle.role_questions.specs.declared.question.Question.{Question}
use Rattle.role_questions.specs.Answers.{IsAnswerText}
use Rattle.role_questions.specs.Meaning.{PutsInVain, PutsNothing, PutsQuestion}

-- a question gets its answer, or is refused if it means nothing, and changes nothing; any other
-- line gets the reply of a live role
pub data AskedReplies (s : StoreState) (line : Line) (text : List ℕ) (is_kept : Bool)
    (next : StoreState) : Type 0 where
  answered : (q : Question) → PutsQuestion s.protocol line q → IsAnswerText s q text
      → is_kept ≡ false → next ≡ s → AskedReplies s line text is_kept next
  in_vain : PutsInVain s.protocol line → text ≡ reply_text s.protocol (Refused F2)
      → is_kept ≡ false → next ≡ s → AskedReplies s line text is_kept next
  acted : PutsNothing line → LiveReplies s line text is_kept next
      → AskedReplies s line text is_kept next
