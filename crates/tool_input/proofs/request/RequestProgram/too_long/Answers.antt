-- An input that is too long is refused.
use Rattle.std.proofs.Common.{◌≡◌, [], Some, sym, ◌∙◌}
use Rattle.tool_input.proofs.Replies.{all_long_replied}
use Rattle.tool_input.proofs.request.RequestProgram.too_long.Goals as goal

pub returns-in-Some : goal.returns-in-Some
returns-in-Some g c = λ args is asks.
    let asked : c.args.self.now ≡ Some c.in-Some.question = sym c.self.view_is ∙ c.in-Some.is in
    let said = rw c.input_rejection-rejection.ensures at c.refused.ensures.text in
    all_long_replied g.Q.Question.interface args (g.Q.Question.task c.in-Some.question) (g.Q.Question.name c.in-Some.question) [] c.refused.result (rw asked at is) asks c.asks_once.ensures.alike said c.refused.ensures.ends
