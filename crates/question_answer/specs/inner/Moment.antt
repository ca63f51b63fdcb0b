-- The moments of a run at which the answer to a question is yes.
use Rattle.std.specs.Prelude.{ℕ, ◌<◌, ◌≤◌, List, length, take}
use Rattle.bspl_types.specs.declared.event.Event.{Event}
use Rattle.bspl_types.specs.declared.expanded.Expanded.{Expanded}
use Rattle.bspl_types.specs.declared.value.Value.{Value}
use Rattle.questions.specs.declared.question.Question.{Question}
use Rattle.questions.specs.Answer.{IsAnsweredYes}

-- after so many events the answer is yes, and after fewer it is not
pub record IsFirstMoment (x : Expanded) (run : List Event) (key : List Value) (q : Question)
    (moment : ℕ) : Type 0 where
  pub within : moment ≤ length run
  pub yes : IsAnsweredYes x (take moment run) key q
  pub not_before : (earlier : ℕ) → earlier < moment → ¬ IsAnsweredYes x (take earlier run) key q
