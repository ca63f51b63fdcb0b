-- Questions that ask the same have the same answer.
use Rattle.std.proofs.Common.{◌≡◌, List, inl, inr, subst, sym}
use Rattle.std.specs.Prelude.{◌↔◌}
use Rattle.bspl_types.specs.declared.event.Event.{Event}
use Rattle.bspl_types.specs.declared.expanded.Expanded.{Expanded}
use Rattle.bspl_types.specs.declared.value.Value.{Value}
use Rattle.questions.specs.declared.question.Happening.{Happening}
use Rattle.questions.specs.declared.question.Question.{Question}
use Rattle.questions.specs.declared.question.Question.TheVariants as asks
use Rattle.questions.specs.Answer.{CanBeSent, ComesToRest, IsAnsweredYes}
use Rattle.questions.specs.Happening.{HappenedBefore, HasHappened}
use Rattle.questions.specs.Same.{AskTheSame}

-- a fact of one thing is that of an equal one
along : {X : Type 0} (P : X → Type 0) (a b : X) → a ≡ b → P a ↔ P b
along P a b same = (subst P same, subst P (sym same))

-- by the question
pub same_answer : (x : Expanded) (run : List Event) (key : List Value) (q r : Question) → AskTheSame q r → (IsAnsweredYes x run key q) ↔ (IsAnsweredYes x run key r)
same_answer x run key (asks.Happened g) (asks.Happened h) same = along (HasHappened x run key) g h same
same_answer x run key (asks.Before g h) (asks.Before one other) same =
    let first = along (λ (a : Happening). HappenedBefore x run key a h) g one same.0 in
    let second = along (λ (b : Happening). HappenedBefore x run key one b) h other same.1 in
    ((λ yes. second.0 (first.0 yes)), (λ yes. first.1 (second.1 yes)))
same_answer x run key (asks.Can m) (asks.Can n) same = along (CanBeSent x run key) m n same
same_answer x run key (asks.Rest excused) (asks.Rest others) same = along (ComesToRest x run key) excused others same
same_answer x run key (asks.Not' _ q) (asks.Not' _ r) same =
    let inner = same_answer x run key q r same in
    ((λ no yes. no (inner.1 yes)), (λ no yes. no (inner.0 yes)))
same_answer x run key (asks.And' _ q _ r) (asks.And' _ s _ t) same =
    let left = same_answer x run key q s same.0 in
    let right = same_answer x run key r t same.1 in
    ((λ both. (left.0 both.0, right.0 both.1)), (λ both. (left.1 both.0, right.1 both.1)))
same_answer x run key (asks.Or' _ q _ r) (asks.Or' _ s _ t) same =
    let left = same_answer x run key q s same.0 in
    let right = same_answer x run key r t same.1 in (
      (λ either. elim either [ inl holds ↦ inl (left.0 holds) | inr holds ↦ inr (right.0 holds) ]),
      (λ either. elim either [ inl holds ↦ inl (left.1 holds) | inr holds ↦ inr (right.1 holds) ]),
    )
same_answer x run key q r same = absurd same
