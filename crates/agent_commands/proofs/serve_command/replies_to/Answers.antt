-- What was written are the replies.
use Rattle.std.proofs.Common.{◌≡◌, List, ℕ, sym, ◌∙◌, subst}
use Rattle.std.proofs.lemmas.Result.{IfOk-weaker}
use Rattle.local_store.specs.State.{StoreState}
use Rattle.role_server.specs.Served.{first_store}
use Rattle.agent_commands.specs.ServeAnswer.{AreReplies}
use Rattle.agent_commands.proofs.serve_command.replies_to.Goals as goal

pub returns : goal.returns
returns c =
    let lines = c.args.lines.now in
    let first = first_store c.args.protocol.now c.args.role in
    let served = subst (λ (s : StoreState). AreReplies s lines c.serve_lines.new.replies) c.in_ok-store.ensures c.in_ok-serve_lines.ensures in
    IfOk-weaker c.from_slice.result (λ (text : List ℕ). text ≡ c.written.result.now) (AreReplies first lines)
    (λ (text : List ℕ) is. subst (AreReplies first lines) (sym (is ∙ c.written.ensures)) served) c.from_slice.ensures
