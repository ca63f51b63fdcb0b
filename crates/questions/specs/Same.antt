-- When two questions are one, wherever their nodes lie in memory.
use Rattle.std.specs.Prelude.{◌≡◌, ◌↔◌, List}
use Rattle.bspl_types.specs.declared.event.Event.{Event}
use Rattle.bspl_types.specs.declared.expanded.Expanded.{Expanded}
use Rattle.bspl_types.specs.declared.value.Value.{Value}
use Rattle.questions.specs.declared.question.Question.{Question}
use Rattle.questions.specs.declared.question.Question.TheVariants as asks
use Rattle.questions.specs.Answer.{IsAnsweredYes}

-- both ask the same of the same
abbrev pub AskTheSame : Question → Question → Type 0
AskTheSame (asks.Happened g) (asks.Happened h) = g ≡ h
AskTheSame (asks.Before g h) (asks.Before one other) = (g ≡ one) × (h ≡ other)
AskTheSame (asks.Can m) (asks.Can n) = m ≡ n
AskTheSame (asks.Rest excused) (asks.Rest others) = excused ≡ others
AskTheSame (asks.Not' _ q) (asks.Not' _ r) = AskTheSame q r
AskTheSame (asks.And' _ q _ r) (asks.And' _ s _ t) = AskTheSame q s × AskTheSame r t
AskTheSame (asks.Or' _ q _ r) (asks.Or' _ s _ t) = AskTheSame q s × AskTheSame r t
AskTheSame q r = ⊥

-- their answers are the same in each run, for each key
abbrev pub SameHasSameAnswer : Type 0
SameHasSameAnswer =
    (x : Expanded) (run : List Event) (key : List Value) (q r : Question) → AskTheSame q r →
    (IsAnsweredYes x run key q) ↔ (IsAnsweredYes x run key r)
