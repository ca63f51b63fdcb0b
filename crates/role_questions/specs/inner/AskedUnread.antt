-- A line that is not read puts no question, so an asked role refuses it.
use Rattle.std.specs.Prelude.{◌≡◌, ◌≢◌, [], ◌∷◌, ◌++◌, length}
use Rattle.std.proofs.Common.{refl, sym, ap, ◌∙◌, arith, inl, inr, length-append, subst}
use Rattle.std.proofs.lemmas.List.Elements.{All-contains, Contains-push}
use Rattle.std.specs.List.{All}
use Rattle.kept_lines.specs.Answers.{IsUnread, LeavesUnread}
use Rattle.list_base.specs.Lines.{Line}
use Rattle.local_store.specs.State.{StoreState}
use Rattle.role_server.specs.inner.LiveUnread.{live_unread}
use Rattle.wire_form.specs.declared.reply.Refusal.TheVariants.{F1}
use Rattle.wire_form.specs.declared.reply.Reply.TheVariants.{Refused}
use Rattle.wire_form.specs.Reply.{reply_text}
use Rattle.role_questions.specs.Asked.{AskedReplies, acted}
use Rattle.role_questions.specs.Meaning.{PutsNothing}

-- what puts a question is short and has its LF
pub unread_puts : (line : Line) → IsUnread line → PutsNothing line
unread_puts line (inl long) asked puts =
    let same : length (long.body ++ 10 ∷ []) ≡ length (puts.body ++ 10 ∷ []) =
    ap length (sym long.ended ∙ puts.ended) in
    absurd (omega (
      arith,
      same,
      length-append long.body (10 ∷ []),
      length-append puts.body (10 ∷ []),
      puts.short,
      long.long,
    ))
unread_puts line (inr lacks) asked puts =
    let no_end = subst (λ (bytes : Line). All (λ byte. byte ≢ 10) bytes) puts.ended lacks.1 in
    absurd (All-contains (λ byte. byte ≢ 10) (puts.body ++ 10 ∷ []) 10 no_end
    (Contains-push puts.body 10) refl)

-- so it is refused as by a live role
pub asked_unread :
    LeavesUnread AskedReplies (λ (s : StoreState). reply_text s.protocol (Refused F1))
asked_unread s line unread = acted (unread_puts line unread) (live_unread s line unread)
