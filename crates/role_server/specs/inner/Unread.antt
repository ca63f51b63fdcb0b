-- A line that is not read asks for nothing, so it is refused.
use Rattle.std.specs.Prelude.{◌≡◌, ◌≢◌, [], ◌∷◌, ◌++◌, length}
use Rattle.std.proofs.Common.{refl, sym, ap, ◌∙◌, arith, inl, inr, length-append, subst}
use Rattle.std.proofs.lemmas.List.Elements.{All-contains, Contains-push}
use Rattle.std.specs.List.{All}
use Rattle.kept_lines.specs.Answers.{IsUnread, LeavesUnread}
use Rattle.list_base.specs.Lines.{Line}
use Rattle.local_store.specs.State.{StoreState}
use Rattle.role_server.specs.Replies.{nothing}
use Rattle.role_server.specs.Served.{ServesLine}
use Rattle.wire_form.specs.declared.reply.Refusal.TheVariants.{F1}
use Rattle.wire_form.specs.declared.reply.Reply.TheVariants.{Refused}
use Rattle.wire_form.specs.Meaning.{AsksNothing}
use Rattle.wire_form.specs.Reply.{reply_text}

-- what asks for something is short and has its LF
pub unread_asks : (line : Line) → IsUnread line → AsksNothing line
unread_asks line (inl long) request asks =
    let same : length (long.body ++ 10 ∷ []) ≡ length (asks.body ++ 10 ∷ []) =
    ap length (sym long.ended ∙ asks.ended) in
    absurd (omega (
      arith,
      same,
      length-append long.body (10 ∷ []),
      length-append asks.body (10 ∷ []),
      asks.short,
      long.long,
    ))
unread_asks line (inr lacks) request asks =
    let no_end = subst (λ (bytes : Line). All (λ byte. byte ≢ 10) bytes) asks.ended lacks.1 in
    absurd (All-contains (λ byte. byte ≢ 10) (asks.body ++ 10 ∷ []) 10 no_end
    (Contains-push asks.body 10) refl)

-- so it is refused, is not kept, and changes nothing
pub unread_replies :
    LeavesUnread ServesLine (λ (s : StoreState). reply_text s.protocol (Refused F1))
unread_replies s line unread = record {
  reply = Refused F1;
  replies = nothing (unread_asks line unread) refl refl;
  text_is = refl;
  kept_is = refl;
}
