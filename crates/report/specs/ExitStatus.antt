-- The status with which a program ends.
use Rattle.tool_input.specs.declared.status.Status.{Status}
use Rattle.tool_input.specs.declared.status.Status.TheVariants.{Done, Refuted, Undecided}
use Rattle.verdict.specs.declared.outcome.Liveness.{Liveness}
use Rattle.verdict.specs.declared.outcome.Liveness.TheVariants as liveness
use Rattle.verdict.specs.declared.outcome.Safety.{Safety}
use Rattle.verdict.specs.declared.outcome.Safety.TheVariants as safety

-- the status of both verdicts: one that refutes counts first, then one that is undecided
abbrev pub verdict_status : Safety → Liveness → Status
verdict_status (safety.Unsafe run param first second) l = Refuted
verdict_status s (liveness.NotLive run param) = Refuted
verdict_status (safety.Undecided log) l = Undecided
verdict_status s (liveness.Undecided log) = Undecided
verdict_status (safety.Safe log) (liveness.Live log') = Done
