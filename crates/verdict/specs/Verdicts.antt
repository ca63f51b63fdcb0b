-- When both answers are right, and their logs may be written.
use Rattle.std.specs.Prelude.{ℕ}
use Rattle.bspl_types.specs.declared.expanded.Expanded.{Expanded}
use Rattle.refutation_log.specs.LogText.{LogInRange}
use Rattle.verdict.specs.declared.outcome.Liveness.{Liveness}
use Rattle.verdict.specs.declared.outcome.Liveness.TheVariants.{Live, NotLive, Undecided}
use Rattle.verdict.specs.declared.outcome.Verdicts.{Verdicts}
use Rattle.verdict.specs.Numbers.{HasNumbersInRange}
use Rattle.verdict.specs.Right.{IsRight}
use Rattle.verdict.specs.RightLiveness.{IsRightLiveness}

-- each answer is right
pub record AreRightAnswers (x : Expanded) (budget : ℕ) (verdicts : Verdicts) : Type 0 where
  pub safety : IsRight x budget verdicts.safety
  pub liveness : IsRightLiveness x budget verdicts.liveness

-- the numbers of the log of an answer on liveness, if it has one, are in range
abbrev pub HasLivenessInRange : Liveness → Type 0
HasLivenessInRange (Live log) = LogInRange log
HasLivenessInRange (NotLive run param) = Unit {0}
HasLivenessInRange (Undecided log) = LogInRange log

-- so are those of each log
pub record AreInRange (verdicts : Verdicts) : Type 0 where
  pub safety : HasNumbersInRange verdicts.safety
  pub liveness : HasLivenessInRange verdicts.liveness
