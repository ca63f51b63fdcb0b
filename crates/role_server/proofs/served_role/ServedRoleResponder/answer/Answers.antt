-- The line gets the text of its reply.
use Rattle.std.proofs.Common.{[], ◌∷◌, ◌++◌, sym}
use Rattle.list_base.specs.Lines.{Line}
use Rattle.role_server.proofs.StreamLemmas.{replies_to}
use Rattle.role_server.proofs.served_role.ServedRoleResponder.answer.Goals as goal
use Rattle.role_server.proofs.served_role.ServedRoleResponder.answer.Goals.{in-Ok, in-Err}

pub returns : goal.returns
returns c =
    let line : Line = c.args.body.now ++ 10 ∷ [] in
    elim c.match-answer_line.branch [
      | in-Ok w ↦ rw w.result-is (rw w.replies-is (rw (sym c.self.view_is) (replies_to c.self.inside.store c.answer_line.new.store line w.in-Ok.reply c.args.replies.now w.push_told.new.text w.push_told.result w.in-Ok.ensures.reply w.in-Ok.ensures.role w.push_told.ensures.text w.push_told.ensures.event)))
      | in-Err w ↦ rw w.result-is tt
    ]
