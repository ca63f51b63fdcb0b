-- A text that declares nothing is refused.
use Rattle.std.proofs.Common.{◌≡◌, None, sym, ap, ◌∙◌}
use Rattle.tool_input.specs.Rejection.{text_rejection}
use Rattle.live_role.specs.Judgement.{no_protocol}
use Rattle.live_role.proofs.judged.judge.Goals as goal

pub returns-in_ok-refused-in-Some : goal.returns-in_ok-refused-in-Some
returns-in_ok-refused-in-Some c =
    let refusal = c.in-Err.refusal in
    no_protocol refusal c.in-Some.rejection (c.in-Err.ensures.refused (λ memory. let none : text_rejection refusal ≡ None = ap text_rejection memory in cc)) (sym c.text_rejection.ensures ∙ c.in-Some.is) c.in_ok-refused-in-Some.ensures.0 c.in_ok-refused-in-Some.ensures.1
