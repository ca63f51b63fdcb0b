-- What is answered to a line.
use Rattle.std.proofs.Common.{ℕ, [], ◌∷◌, ◌++◌, subst}
use Rattle.bspl_types.specs.declared.expanded.Expanded.{Expanded}
use Rattle.list_base.specs.Lines.{Line}
use Rattle.wire_form.specs.declared.act.Reading.{Reading}
use Rattle.wire_form.specs.Meaning.{AsksFor, AsksInVain, AsksNothing, IsLineReading}
use Rattle.role_server.specs.Live.{with_live_room}
use Rattle.role_server.proofs.LiveAnswers.{replies_answered, replies_in_vain, replies_nothing}
use Rattle.role_server.proofs.live_reply.reply_live.Goals as goal

-- it asks for nothing
pub returns-in-NotRead-clause-reply : goal.returns-in-NotRead-clause-reply
returns-in-NotRead-clause-reply c =
    let line : Line = c.args.body.now ++ 10 ∷ [] in
    let none : AsksNothing line = subst (λ (r : Reading). IsLineReading c.admitted.result.now c.role.result line r) c.in-NotRead.is c.in_ok-read.ensures in
    replies_nothing (with_live_room c.args.store.now) line none

-- it means nothing for the role
pub returns-in-NotMeant-clause-reply : goal.returns-in-NotMeant-clause-reply
returns-in-NotMeant-clause-reply c =
    let line : Line = c.args.body.now ++ 10 ∷ [] in
    let of_role = subst (λ (role : ℕ). IsLineReading c.admitted.result.now role line c.in_ok-read.field-0) c.role.ensures c.in_ok-read.ensures in
    let read = subst (λ (x : Expanded). IsLineReading x c.args.store.now.role line c.in_ok-read.field-0) c.admitted.ensures of_role in
    let vain : AsksInVain c.args.store.now.protocol c.args.store.now.role line = subst (λ (r : Reading). IsLineReading c.args.store.now.protocol c.args.store.now.role line r) c.in-NotMeant.is read in
    replies_in_vain (with_live_room c.args.store.now) line vain

-- it is answered as the act is
pub returns-in-Meant-clause-reply : goal.returns-in-Meant-clause-reply
returns-in-Meant-clause-reply c =
    let line : Line = c.args.body.now ++ 10 ∷ [] in
    let of_role = subst (λ (role : ℕ). IsLineReading c.admitted.result.now role line c.in_ok-read.field-0) c.role.ensures c.in_ok-read.ensures in
    let read = subst (λ (x : Expanded). IsLineReading x c.args.store.now.role line c.in_ok-read.field-0) c.admitted.ensures of_role in
    let asks : AsksFor c.args.store.now.protocol c.args.store.now.role line c.in-Meant.act = subst (λ (r : Reading). IsLineReading c.args.store.now.protocol c.args.store.now.role line r) c.in-Meant.is read in
    replies_answered (with_live_room c.args.store.now) line c.in-Meant.act c.answer_live.result (with_live_room c.answer_live.new.store) asks c.answer_live.ensures.reply
