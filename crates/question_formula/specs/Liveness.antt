-- Liveness as questions: can an enactment come to rest with a public parameter unbound?
use Rattle.std.specs.Prelude.{◌≡◌, ◌↔◌, ℕ, []}
use Rattle.bspl_types.specs.declared.expanded.Expanded.{Expanded}
use Rattle.enactment_model.specs.Liveness.{HasPublicValue, LiveProtocol}
use Rattle.questions.specs.declared.question.Happening.TheVariants as happenings
use Rattle.questions.specs.declared.question.Question.{Question}
use Rattle.questions.specs.declared.question.Question.TheVariants as asks
use Rattle.questions.specs.Answer.{IsPossible}

-- the question is `bound p`
abbrev pub IsBoundQuestion : ℕ → Question → Type 0
IsBoundQuestion p q = q ≡ asks.Happened (happenings.Bound p)

-- the question is `not bound p`
abbrev pub IsUnboundQuestion : ℕ → Question → Type 0
IsUnboundQuestion p (asks.Not' _ q) = IsBoundQuestion p q
IsUnboundQuestion p (asks.Happened h) = ⊥
IsUnboundQuestion p (asks.Before one other) = ⊥
IsUnboundQuestion p (asks.Can m) = ⊥
IsUnboundQuestion p (asks.Rest excused) = ⊥
IsUnboundQuestion p (asks.And' _ q _ r) = ⊥
IsUnboundQuestion p (asks.Or' _ q _ r) = ⊥

-- the question is `rest and not bound p`
abbrev pub IsUnboundAtRest : ℕ → Question → Type 0
IsUnboundAtRest p (asks.And' _ q _ r) = (q ≡ asks.Rest []) × IsUnboundQuestion p r
IsUnboundAtRest p (asks.Happened h) = ⊥
IsUnboundAtRest p (asks.Before one other) = ⊥
IsUnboundAtRest p (asks.Can m) = ⊥
IsUnboundAtRest p (asks.Rest excused) = ⊥
IsUnboundAtRest p (asks.Not' _ q) = ⊥
IsUnboundAtRest p (asks.Or' _ q _ r) = ⊥

-- a protocol is live exactly if none of these questions is possible of a public parameter
abbrev pub LivenessIsAQuestion : Type 0
LivenessIsAQuestion =
    (x : Expanded) (question : ℕ → Question) → ((p : ℕ) → IsUnboundAtRest p (question p)) →
    (LiveProtocol x ↔ ((p : ℕ) → HasPublicValue x p → ¬ IsPossible x (question p)))
