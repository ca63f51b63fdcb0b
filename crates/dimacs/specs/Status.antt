-- The statuses of verdicts, and the exit statuses of the program.
use Rattle.std.specs.Prelude.{ℕ}
use Rattle.dimacs.specs.declared.status.Status.{Status}
use Rattle.dimacs.specs.declared.status.Status.TheVariants as status
use Rattle.dimacs.specs.declared.verdict.Verdict.{Verdict}
use Rattle.dimacs.specs.declared.verdict.Verdict.TheVariants.{Satisfiable, Unsatisfiable, Proved, Unknown}

-- the status of a verdict
abbrev pub solver_status : Verdict → Status
solver_status (Satisfiable assignment stats) = status.Satisfiable
solver_status (Unsatisfiable stats) = status.Unsatisfiable
solver_status (Proved proof) = status.Unsatisfiable
solver_status (Unknown stats) = status.Unknown

-- what the program ends with after an answer: as at the competitions of solvers, and as `bspl` does
abbrev pub solver_exit_number : Status → ℕ
solver_exit_number status.Satisfiable = 10
solver_exit_number status.Unsatisfiable = 20
solver_exit_number status.Unknown = 0
solver_exit_number status.Usage = 3
solver_exit_number status.Refused = 4
