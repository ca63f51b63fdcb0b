-- What the status of right verdicts says of a protocol is true.
use Rattle.std.proofs.Common.{◌≡◌, ℕ, refl}
use Rattle.bspl_types.specs.declared.expanded.Expanded.{Expanded}
use Rattle.enactment_model.specs.Liveness.{LiveProtocol}
use Rattle.enactment_model.specs.Safety.{SafeProtocol}
use Rattle.refutation_log.specs.declared.refutation.Log.{Log}
use Rattle.report.specs.ExitStatus.{verdict_status}
use Rattle.tool_input.specs.declared.status.Status.TheVariants as status
use Rattle.verdict.specs.declared.outcome.Liveness.{Liveness}
use Rattle.verdict.specs.declared.outcome.Liveness.TheVariants as liveness
use Rattle.verdict.specs.declared.outcome.Safety.{Safety}
use Rattle.verdict.specs.declared.outcome.Safety.TheVariants as safety
use Rattle.verdict.specs.declared.outcome.Verdicts.{Verdicts}
use Rattle.verdict.specs.Right.{IsRight}
use Rattle.verdict.specs.RightLiveness.{IsRightLiveness}
use Rattle.verdict.specs.Verdicts.{AreRightAnswers}

-- a right verdict that the protocol is safe is true
right_safe : (x : Expanded) (budget : ℕ) (s : Safety) (log : Log) → s ≡ safety.Safe log → IsRight x budget s → SafeProtocol x
right_safe x budget s log is right = (rw is at right).holds

-- the status 0 is that of both verdicts
both_done : (s : Safety) (l : Liveness) → status.Done ≡ verdict_status s l → ((log : Log) × (s ≡ safety.Safe log)) × ((log : Log) × (l ≡ liveness.Live log))
both_done (safety.Safe log) (liveness.Live log') is = ((log, refl), (log', refl))
both_done (safety.Safe log) (liveness.NotLive run param) is = absurd cc
both_done (safety.Safe log) (liveness.Undecided log') is = absurd cc
both_done (safety.Unsafe run param first second) l is = absurd cc
both_done (safety.Undecided log) (liveness.Live log') is = absurd cc
both_done (safety.Undecided log) (liveness.NotLive run param) is = absurd cc
both_done (safety.Undecided log) (liveness.Undecided log') is = absurd cc

-- a right verdict that the protocol is live is true
right_live : (x : Expanded) (budget : ℕ) (l : Liveness) (log : Log) → l ≡ liveness.Live log → IsRightLiveness x budget l → LiveProtocol x
right_live x budget l log is right = (rw is at right).holds

-- so is the status 0
pub done_true : (x : Expanded) (budget : ℕ) (v : Verdicts) → AreRightAnswers x budget v → status.Done ≡ verdict_status v.safety v.liveness → SafeProtocol x × LiveProtocol x
done_true x budget v right ends =
    let both = both_done v.safety v.liveness ends in
    (right_safe x budget v.safety both.0.0 both.0.1 right.safety, right_live x budget v.liveness both.1.0 both.1.1 right.liveness)
