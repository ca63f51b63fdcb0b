-- A live role's replies are one, and its lines are kept or leave its store.
use Rattle.std.proofs.Common.{◌≡◌, ℕ, ◌<◌, Bool, true, false, if◌then◌else◌, List, [], ◌∷◌, length, sym, ap, subst, ◌∙◌, inl, inr}
use Rattle.std.proofs.lemmas.Bool.{cases_Bool, cond-false, cond-true, true≢false}
use Rattle.bspl_types.specs.declared.expanded.Expanded.{Expanded}
use Rattle.bspl_types.specs.Admission.{IsAdmitted}
use Rattle.kept_lines.specs.Answers.{AnswersLines}
use Rattle.kept_lines.specs.Replay.{EndsWithLf}
use Rattle.list_base.specs.Lines.{Line}
use Rattle.local_store.specs.Consistent.{IsConsistent}
use Rattle.local_store.specs.State.{StoreState}
use Rattle.wire_form.specs.declared.reply.Reply.{Reply}
use Rattle.wire_form.specs.Reply.{reply_text}
use Rattle.role_server.specs.Live.{LiveReplies, first_live_store, live_limit}
use Rattle.role_server.specs.LiveLaws.{LiveLinesKeepOrStay, LiveRepliesAreOne}
use Rattle.role_server.specs.Replies.{Replies, answered, in_vain, nothing}
use Rattle.role_server.specs.Served.{first_store, tells_event}
use Rattle.role_server.proofs.Determined.{first_consistent}
use Rattle.role_server.proofs.LiveLemmas.{live_consistent}
use Rattle.role_server.proofs.OneReply.{LowerLaws, replies_once}
use Rattle.role_server.proofs.StaysConsistent.{asked_consistent, replies_consistent}

-- the store after a line is consistent
next_consistent : LowerLaws → (s : StoreState) (line : Line) (text : List ℕ) (is_kept : Bool) (next : StoreState) → IsConsistent s → LiveReplies s line text is_kept next → IsConsistent next
next_consistent laws s line text is_kept next kept a =
    let after : IsConsistent a.after = replies_consistent live_limit laws s line a.reply a.after kept a.replies in
    elim (cases_Bool is_kept) [
      | inl event ↦ subst IsConsistent (sym (a.next_is ∙ cond-true is_kept a.after s event)) after
      | inr none ↦ subst IsConsistent (sym (a.next_is ∙ cond-false is_kept a.after s none)) kept
    ]

-- and so is that after some
lines_consistent : LowerLaws → (lines : List Line) (s : StoreState) (out acts : List ℕ) (end : StoreState) → IsConsistent s → AnswersLines LiveReplies s lines out acts end → IsConsistent end
lines_consistent laws [] s out acts end kept is = subst IsConsistent (sym is.2) kept
lines_consistent laws (line ∷ lines) s out acts end kept is =
    lines_consistent laws lines is.0 is.1 is.2 end (next_consistent laws s line is.3.reply is.3.is_kept is.0 kept is.3.answer) is.4

-- a line has one outcome
pub live_once : LowerLaws → LiveRepliesAreOne
live_once laws s consistent lines out acts now there line text other is_kept also_kept next also one two =
    let kept : IsConsistent now = lines_consistent laws lines s out acts now consistent there in
    let same = replies_once live_limit laws now line one.reply two.reply one.after two.after kept (asked_consistent laws now line kept) one.replies two.replies in
    let both : is_kept ≡ also_kept = one.kept_is ∙ ap tells_event same.0 ∙ sym two.kept_is in (
      one.text_is ∙ ap (reply_text now.protocol) same.0 ∙ sym two.text_is,
      both,
      one.next_is
          ∙ ap (λ (after : StoreState). if is_kept then after else now) same.1
          ∙ ap (λ (b : Bool). if b then two.after else now) both
          ∙ sym two.next_is,
    )

-- a line that makes an event asks for something
told_ends : (s : StoreState) (line : Line) (reply : Reply) (after : StoreState) → Replies live_limit s line reply after → true ≡ tells_event reply → EndsWithLf line
told_ends s line reply after (nothing none is same) event = absurd (true≢false (event ∙ ap tells_event is))
told_ends s line reply after (in_vain vain is same) event = absurd (true≢false (event ∙ ap tells_event is))
told_ends s line reply after (answered act asks answers) event = (asks.asks.body, asks.asks.ended)

-- so it has its LF, and each other leaves the store
pub live_lines : LiveLinesKeepOrStay
live_lines = record {
  keeps = λ s line text next a. told_ends s line a.reply a.after a.replies a.kept_is;
  stays = λ s line text next a. a.next_is;
}

-- the first store is consistent
pub first_live_consistent : (x : Expanded) (role : ℕ) → IsAdmitted x → role < length x.roles → IsConsistent (first_live_store x role)
first_live_consistent x role admitted known = live_consistent (first_store x role) (first_consistent x role admitted known)
