-- The run of a right answer is a legal run.
use Rattle.std.proofs.Common.{ℕ}
use Rattle.bspl_types.specs.declared.expanded.Expanded.{Expanded}
use Rattle.verdict.specs.declared.outcome.Liveness.{Liveness}
use Rattle.verdict.specs.declared.outcome.Liveness.TheVariants as liveness
use Rattle.verdict.specs.declared.outcome.Safety.{Safety}
use Rattle.verdict.specs.declared.outcome.Safety.TheVariants.{Safe, Undecided, Unsafe}
use Rattle.verdict.specs.Right.{IsRight}
use Rattle.verdict.specs.RightLiveness.{IsRightLiveness}
use Rattle.report.specs.VerdictText.{HasFittingRest, HasFittingRun}
use Rattle.report.proofs.laws.right_runs_fit.Goals as goal

-- by the answer on safety
fits : (x : Expanded) (budget : ℕ) (s : Safety) → IsRight x budget s → HasFittingRun x s
fits x budget (Safe log) right = tt
fits x budget (Unsafe run param first second) right = right.legal.fits
fits x budget (Undecided log) right = tt

-- and by that on liveness
rest_fits : (x : Expanded) (budget : ℕ) (l : Liveness) → IsRightLiveness x budget l → HasFittingRest x l
rest_fits x budget (liveness.Live log) right = tt
rest_fits x budget (liveness.NotLive run param) right = right.legal.fits
rest_fits x budget (liveness.Undecided log) right = tt

pub returns : goal.returns
returns c = λ x budget v right. record {
  safety = fits x budget v.safety right.safety;
  liveness = rest_fits x budget v.liveness right.liveness;
}
