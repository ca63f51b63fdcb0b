-- The line gets the text of its reply, and is kept if it made an event.
use Rattle.std.proofs.Common.{[], ◌∷◌, ◌++◌, sym}
use Rattle.list_base.specs.Lines.{Line}
use Rattle.role_server.specs.Live.{with_live_room}
use Rattle.role_server.proofs.LiveAnswers.{live_told}
use Rattle.role_server.proofs.live.LiveRoleResponder.answer.Goals as goal
use Rattle.role_server.proofs.live.LiveRoleResponder.answer.Goals.{in-Ok, in-Err}

pub returns : goal.returns
returns c =
    let line : Line = c.args.body.now ++ 10 ∷ [] in
    elim c.match-reply_live.branch [
      | in-Ok w ↦ rw w.result-is (rw w.replies-is (rw (sym c.self.view_is) (live_told (with_live_room c.self.inside.store) (with_live_room c.reply_live.new.store) line w.in-Ok.reply c.reply_live.new.store.protocol c.args.replies.now w.push_told.new.text w.push_told.result w.in-Ok.ensures.reply w.in-Ok.ensures.role.protocol w.push_told.ensures.text w.push_told.ensures.event)))
      | in-Err w ↦ rw w.result-is tt
    ]
