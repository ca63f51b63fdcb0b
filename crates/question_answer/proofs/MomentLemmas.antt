-- The first moment of a run at which the answer is yes.
use Rattle.std.proofs.Common.{◌≡◌, ℕ, ◌+◌, ◌<◌, Option, None, Some, List, refl, subst, ⊎_elim, arith}
use Rattle.std.proofs.lemmas.Bool.{cases_lt}
use Rattle.std.specs.Prelude.{IsSome, MatchOption}
use Rattle.bspl_types.specs.declared.event.Event.{Event}
use Rattle.bspl_types.specs.declared.expanded.Expanded.{Expanded}
use Rattle.bspl_types.specs.declared.value.Value.{Value}
use Rattle.questions.specs.declared.question.Question.{Question}
use Rattle.questions.specs.Answer.{IsAnsweredYes}
use Rattle.question_answer.specs.inner.Moment.{IsFirstMoment}

-- what was found of the run
abbrev pub IsFoundIn : Expanded → List Event → List Value → Question → Option ℕ → Type 0
IsFoundIn x run key q found = MatchOption found (¬ IsAnsweredYes x run key q) (IsFirstMoment x run key q)

-- what was found is the first moment
pub the_moment : (x : Expanded) (run : List Event) (key : List Value) (q : Question) (found : Option ℕ) (moment : ℕ) → found ≡ Some moment → IsFoundIn x run key q found → IsFirstMoment x run key q moment
the_moment x run key q found moment is is_first = subst (IsFoundIn x run key q) is is_first

-- it is, where the answer is yes at the end of the run
pub some_found : (x : Expanded) (run : List Event) (key : List Value) (q : Question) (found : Option ℕ) → IsAnsweredYes x run key q → IsFoundIn x run key q found → IsSome found
some_found x run key q None answered is_first = absurd (is_first answered)
some_found x run key q (Some moment) answered is_first = refl

-- what holds of all numbers so far and of the next one holds of one more
pub one_more : (P : ℕ → Type 0) (n : ℕ) → ((k : ℕ) → k < n → P k) → P n → (k : ℕ) → k < n + 1 → P k
one_more P n all next k below =
    ⊎_elim
    (λ before. all k before)
    (λ from. let same : n ≡ k = omega (arith, below, from) in subst P same next)
    (cases_lt k n)
