-- What is answered to a line that asks for an act.
use Rattle.std.proofs.Common.{ℕ, [], ◌∷◌, ◌++◌, subst}
use Rattle.bspl_types.specs.declared.expanded.Expanded.{Expanded}
use Rattle.list_base.specs.Lines.{Line}
use Rattle.wire_form.specs.declared.act.Reading.{Reading}
use Rattle.wire_form.specs.Meaning.{AsksFor, IsLineReading}
use Rattle.role_server.proofs.ActLemmas.{line_answered}
use Rattle.role_server.proofs.answer.answer_line.Goals as goal

-- as the act is answered
pub returns-in-Meant-clause-reply : goal.returns-in-Meant-clause-reply
returns-in-Meant-clause-reply c =
    let line : Line = c.args.body.now ++ 10 ∷ [] in
    let of_role = subst (λ (role : ℕ). IsLineReading c.admitted.result.now role line c.in_ok-read.field-0) c.role.ensures c.in_ok-read.ensures in
    let read = subst (λ (x : Expanded). IsLineReading x c.args.store.now.role line c.in_ok-read.field-0) c.admitted.ensures of_role in
    let asks : AsksFor c.args.store.now.protocol c.args.store.now.role line c.in-Meant.act = subst (λ (r : Reading). IsLineReading c.args.store.now.protocol c.args.store.now.role line r) c.in-Meant.is read in
    line_answered c.args.most_keys c.args.store.now line c.in-Meant.act c.answer_act.result c.answer_act.new.store asks c.answer_act.ensures.reply
