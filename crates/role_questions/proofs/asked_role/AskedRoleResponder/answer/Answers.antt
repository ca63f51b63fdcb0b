-- A line is answered as a live role does, or as a question.
use Rattle.std.proofs.Common.{◌≡◌, ◌≢◌, true, false, [], ◌∷◌, ◌++◌, refl, sym, ap, subst}
use Rattle.list_base.specs.Lines.{Line}
use Rattle.local_store.specs.State.{StoreState}
use Rattle.role_server.specs.Live.{RepliesLive, with_live_room}
use Rattle.wire_form.specs.declared.reply.Refusal.TheVariants.{F1}
use Rattle.wire_form.specs.declared.reply.Reply.{Reply}
use Rattle.wire_form.specs.declared.reply.Reply.TheVariants.{Refused}
use Rattle.role_questions.proofs.AskedLemmas.{asked_left, asked_told, left_asks}
use Rattle.role_questions.proofs.asked_role.AskedRoleResponder.answer.Goals as goal
use Rattle.role_questions.proofs.asked_role.AskedRoleResponder.answer.Goals.{in-Ok, in-Ok-2, in-Err}

-- a line that is refused as one that asks for nothing is one
pub ask-requires : goal.ask-requires
ask-requires c =
    let line : Line = c.args.body.now ++ 10 ∷ [] in
    let refused : c.in-Ok.reply ≡ Refused F1 = c.if-says_no_request.ensures.0 refl in
    left_asks c.self.inside.role c.reply.new.self line (subst (λ (reply : Reply). RepliesLive c.self.inside.role line reply c.reply.new.self) refused c.in-Ok.ensures)

-- its answer is appended
pub returns : goal.returns
returns c =
    let line : Line = c.args.body.now ++ 10 ∷ [] in
    let s : StoreState = c.self.inside.role in
    elim c.match-reply.branch [
      | in-Ok w ↦ rw w.result-is (rw w.replies-is (rw (sym c.self.view_is) (
          let refused : w.in-Ok.reply ≡ Refused F1 = w.if-says_no_request.ensures.0 refl in
          asked_left s c.reply.new.self (with_live_room w.store.result.now) line c.args.replies.now w.ask.new.replies w.ask.result (subst (λ (reply : Reply). RepliesLive s line reply c.reply.new.self) refused w.in-Ok.ensures) w.store.ensures w.ask.ensures)))
      | in-Ok-2 w ↦ rw w.result-is (rw w.replies-is (rw (sym c.self.view_is) (
          let other : w.in-Ok.reply ≢ Refused F1 = λ is. (let wrong : false ≡ true = w.if-says_no_request.ensures.1 is in absurd cc) in
          asked_told s c.reply.new.self line w.in-Ok.reply w.store-in-Ok-2.result.now.protocol c.args.replies.now w.push_told.new.text w.push_told.result c.question_is_one.ensures.other c.equal_values_are_one.ensures.lists w.in-Ok.ensures other (ap (λ (t : StoreState). t.protocol) w.store-in-Ok-2.ensures) w.push_told.ensures.text w.push_told.ensures.event)))
      | in-Err w ↦ rw w.result-is tt
    ]
