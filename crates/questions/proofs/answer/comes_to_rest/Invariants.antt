-- Each message that was looked at is at rest.
use Rattle.std.proofs.Common.{ℕ, ◌<◌}
use Rattle.questions.specs.inner.Moment.{IsAtRest}
use Rattle.questions.proofs.answer.comes_to_rest.Given as goal

-- each earlier message is at rest
abbrev pub invariant-loop-m : goal.invariant-loop-m
invariant-loop-m l = (k : ℕ) → k < l.m → IsAtRest l.x l.run l.key l.excused k
