-- No moment that was looked at shows it.
use Rattle.std.proofs.Common.{ℕ, ◌<◌, take}
use Rattle.questions.specs.inner.Moment.{IsBetween}
use Rattle.questions.proofs.happening.happened_before.Given as goal

-- at no earlier moment the one had happened and the other had not
abbrev pub invariant-loop-moment : goal.invariant-loop-moment
invariant-loop-moment l = (k : ℕ) → k < l.moment → ¬ IsBetween l.x (take k l.run) l.key l.one l.other
