-- Arguments that request no task get the usage line, and a task is answered or refused.
use Rattle.std.proofs.Common.{◌≡◌, List, ℕ, None, Some, sym, ◌∙◌, ap, subst}
use Rattle.std.specs.Prelude.{unwrap_or}
use Rattle.tool_input.specs.Interface.{task_bytes}
use Rattle.tool_input.specs.Output.{AnswersInput}
use Rattle.tool_input.specs.Refusals.{RefusesInput}
use Rattle.tool_input.proofs.Replies.{accepted, at_once_replied, task_refused, task_replied, usage_replied}
use Rattle.tool_input.proofs.request.Request.answer.Goals as goal

pub returns-in_default-clause-right : goal.returns-in_default-clause-right
returns-in_default-clause-right g c = λ args is out status completed.
    let none : c.args.self.now ≡ None = sym c.self.view_is ∙ c.in_default.is in
    let replies = c.whole.ensures.right out status completed in
    usage_replied g.Q.Question.interface args c.args.input.now out status (rw none at is) (replies.0 ∙ c.in_ok-usage_reply.ensures.text) (replies.1 ∙ c.in_ok-usage_reply.ensures.ends)

pub returns-in-Ok-clause-right : goal.returns-in-Ok-clause-right
returns-in-Ok-clause-right g c = λ args is out status completed.
    let i = g.Q.Question.interface in
    let task = g.Q.Question.task c.in-Some.question in
    let name = g.Q.Question.name c.in-Some.question in
    let asked : c.args.self.now ≡ Some c.in-Some.question = sym c.self.view_is ∙ c.in-Some.is in
    let bytes : c.bytes_of-bytes.result.now ≡ task_bytes i task c.args.input.now = c.bytes_of-bytes.ensures ∙ ap (λ o. unwrap_or o c.args.input.now) c.in_ok-own.ensures.text in
    let answered = subst (λ (b : List ℕ). AnswersInput (i.rules task) name b out status) bytes (c.in-Ok.ensures.ok out status completed) in
    task_replied i args task name c.args.input.now out status (rw asked at is) (accepted c.refused_at_once.result (i.refused_at_once task) c.refused_at_once.ensures c.in_default-refused_at_once.not-Some) c.requires.short answered

pub returns-in-Err-Rejected-clause-right : goal.returns-in-Err-Rejected-clause-right
returns-in-Err-Rejected-clause-right g c = λ args is out status completed.
    let i = g.Q.Question.interface in
    let task = g.Q.Question.task c.in-Some.question in
    let name = g.Q.Question.name c.in-Some.question in
    let asked : c.args.self.now ≡ Some c.in-Some.question = sym c.self.view_is ∙ c.in-Some.is in
    let bytes : c.bytes_of-bytes.result.now ≡ task_bytes i task c.args.input.now = c.bytes_of-bytes.ensures ∙ ap (λ o. unwrap_or o c.args.input.now) c.in_ok-own.ensures.text in
    let replies = c.whole-in-Err-Rejected.ensures.right out status completed in
    let r = c.in-Err-Rejected.rejection in
    let refuses = subst (λ (b : List ℕ). RefusesInput (i.rules task) name b r) bytes (rw c.in-Err-Rejected.field-0-is at c.in-Err-Rejected.ensures.refused) in
    let said = subst (λ (b : List ℕ). i.refusal_text task b r c.in_ok-refused-in-Err-Rejected.field-0.text) bytes c.in_ok-refused-in-Err-Rejected.ensures.text in
    task_refused i args task name c.args.input.now out c.in_ok-refused-in-Err-Rejected.field-0.text status r (rw asked at is) (accepted c.refused_at_once.result (i.refused_at_once task) c.refused_at_once.ensures c.in_default-refused_at_once.not-Some) c.requires.short refuses said replies.0 (replies.1 ∙ c.in_ok-refused-in-Err-Rejected.ensures.ends)

pub returns-in-Some-refused_at_once-clause-right : goal.returns-in-Some-refused_at_once-clause-right
returns-in-Some-refused_at_once-clause-right g c = λ args is out status completed.
    let i = g.Q.Question.interface in
    let task = g.Q.Question.task c.in-Some.question in
    let name = g.Q.Question.name c.in-Some.question in
    let asked : c.args.self.now ≡ Some c.in-Some.question = sym c.self.view_is ∙ c.in-Some.is in
    let bytes : c.bytes_of-bytes.result.now ≡ task_bytes i task c.args.input.now = c.bytes_of-bytes.ensures ∙ ap (λ o. unwrap_or o c.args.input.now) c.in_ok-own.ensures.text in
    let replies = c.whole-in-Some-refused_at_once.ensures.right out status completed in
    let r = c.in-Some-refused_at_once.rejection in
    let at_once : i.refused_at_once task ≡ Some r = sym c.refused_at_once.ensures ∙ c.in-Some-refused_at_once.is in
    let said = subst (λ (b : List ℕ). i.refusal_text task b r c.in_ok-refused.field-0.text) bytes c.in_ok-refused.ensures.text in
    at_once_replied i args task name c.args.input.now out c.in_ok-refused.field-0.text status r (rw asked at is) at_once said replies.0 (replies.1 ∙ c.in_ok-refused.ensures.ends)
