-- At the moments before this one the answer is not yes.
use Rattle.std.proofs.Common.{ℕ, ◌<◌, take}
use Rattle.questions.specs.Answer.{IsAnsweredYes}
use Rattle.question_answer.proofs.first_yes.first_yes.Given as goal

abbrev pub invariant-loop-moment : goal.invariant-loop-moment
invariant-loop-moment l = (earlier : ℕ) → earlier < l.moment → ¬ IsAnsweredYes l.x (take earlier l.run) l.key l.q
