-- What a line gets that asks for no act.
use Rattle.std.proofs.Common.{[], ◌∷◌, ◌++◌, refl, subst}
use Rattle.bspl_types.specs.declared.expanded.Expanded.{Expanded}
use Rattle.list_base.specs.Lines.{Line}
use Rattle.role_server.specs.Live.{with_live_room}
use Rattle.role_questions.specs.declared.question.QuestionReading.{QuestionReading}
use Rattle.role_questions.specs.Asked.{answered}
use Rattle.role_questions.specs.Meaning.{IsQuestionReading, PutsInVain, PutsNothing, PutsQuestion}
use Rattle.role_questions.proofs.AskedLemmas.{neither_told, vain_told}
use Rattle.role_questions.proofs.RoomLemmas.{text_there}
use Rattle.role_questions.proofs.asked_role.ask.Goals as goal

-- it puts no question either
pub returns-in-Ok-NotRead : goal.returns-in-Ok-NotRead
returns-in-Ok-NotRead c =
    let line : Line = c.args.body.now ++ 10 ∷ [] in
    let puts : PutsNothing line = subst (λ (r : QuestionReading). IsQuestionReading c.admitted.result.now line r) c.in-Ok-NotRead.field-0-is c.in-Ok-NotRead.ensures in
    neither_told (with_live_room c.args.store.now) line c.args.replies.now c.refuse.new.replies c.refuse.result c.requires puts c.refuse.ensures.text c.refuse.ensures.kept

-- it puts one that means nothing
pub returns-in-Ok-NotMeant : goal.returns-in-Ok-NotMeant
returns-in-Ok-NotMeant c =
    let line : Line = c.args.body.now ++ 10 ∷ [] in
    let read = subst (λ (x : Expanded). IsQuestionReading x line c.in-Ok-NotMeant.field-0) c.admitted.ensures c.in-Ok-NotMeant.ensures in
    let vain : PutsInVain c.args.store.now.protocol line = subst (λ (r : QuestionReading). IsQuestionReading c.args.store.now.protocol line r) c.in-Ok-NotMeant.field-0-is read in
    vain_told (with_live_room c.args.store.now) line c.args.replies.now c.refuse-in-Ok-NotMeant.new.replies c.refuse-in-Ok-NotMeant.result vain c.refuse-in-Ok-NotMeant.ensures.text c.refuse-in-Ok-NotMeant.ensures.kept

-- it puts one that is answered
pub returns-in_ok-push_answer-in-Ok-Meant : goal.returns-in_ok-push_answer-in-Ok-Meant
returns-in_ok-push_answer-in-Ok-Meant c =
    let line : Line = c.args.body.now ++ 10 ∷ [] in
    let read = subst (λ (x : Expanded). IsQuestionReading x line c.in-Ok-Meant.field-0) c.admitted.ensures c.in-Ok-Meant.ensures in
    let puts : PutsQuestion c.args.store.now.protocol line c.in-Ok-Meant.question = subst (λ (r : QuestionReading). IsQuestionReading c.args.store.now.protocol line r) c.in-Ok-Meant.field-0-is read in
    let told = c.in_ok-push_answer-in-Ok-Meant.ensures in
    record {
      reply = told.0;
      answer = answered c.in-Ok-Meant.question puts (text_there c.args.store.now c.in-Ok-Meant.question told.0 told.2) refl refl;
      appended = told.1;
    }
