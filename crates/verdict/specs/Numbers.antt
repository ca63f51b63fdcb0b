-- Logs whose numbers a text may have.
use Rattle.std.specs.Prelude.{◌+◌, ◌≤◌, List, length}
use Rattle.clause_core.specs.declared.formula.Formula.{Formula}
use Rattle.clause_core.specs.declared.literal.Lit.{Lit}
use Rattle.refutation_log.specs.declared.refutation.Log.{Log}
use Rattle.refutation_log.specs.LogText.{LogInRange}
use Rattle.refutation_log.specs.Resolution.{LogResolves}
use Rattle.verdict.specs.declared.outcome.Safety.{Safety}
use Rattle.verdict.specs.declared.outcome.Safety.TheVariants.{Safe, Undecided, Unsafe}

-- the numbers of the answer's log, if it has one, are in range
abbrev pub HasNumbersInRange : Safety → Type 0
HasNumbersInRange (Safe log) = LogInRange log
HasNumbersInRange (Unsafe run param first second) = Unit {0}
HasNumbersInRange (Undecided log) = LogInRange log

-- a log that resolves over a formula has numbers in range, unless there are too many clauses, steps
-- or variables
abbrev pub NumbersInRange : Type 0
NumbersInRange =
    (f : Formula) (log : Log) (derived : List (List Lit)) →
    LogResolves f log derived →
    length f.clauses + length log.steps ≤ 2147483647 → f.vars ≤ 2147483647 → LogInRange log
