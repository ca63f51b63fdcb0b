-- What is answered on a log.
use Rattle.std.specs.Prelude.{◌≡◌, ◌⊎◌, ℕ, List, codes}
use Rattle.clause_core.specs.declared.formula.Formula.{Formula}
use Rattle.clause_core.specs.Clause.{IsUnsatisfiable}
use Rattle.dimacs.specs.Verdict.{IsFormulaOf}
use Rattle.log_checker.specs.declared.refusal.Reject.{Reject}
use Rattle.log_checker.specs.FirstFailure.{FailsFirst}
use Rattle.rejections.specs.FailureLine.{reject_line}
use Rattle.refutation_log.specs.declared.refutation.Log.{Log}
use Rattle.refutation_log.specs.Resolution.{Accepts}
use Rattle.tool_input.specs.declared.status.Status.{Status}
use Rattle.tool_input.specs.declared.status.Status.TheVariants.{Done, Refuted}

-- the line for a log that is accepted
abbrev pub accepted_line : List ℕ
accepted_line = codes "accepted unsatisfiable\n"

-- the log is accepted on the formula of the text, so no assignment satisfies the clauses that are
-- written there, and the output says so
pub record SaysRefuted (text : List ℕ) (log : Log) (out : List ℕ) (status : Status)
    : Type 0 where
  pub formula : Formula
  pub read : IsFormulaOf text formula
  pub accepts : Accepts formula log
  pub none : IsUnsatisfiable read.written
  pub says : out ≡ accepted_line
  pub done : status ≡ Done

-- it is not accepted, and the output names its first failure
pub record SaysNotRefuted (text : List ℕ) (log : Log) (out : List ℕ) (status : Status)
    : Type 0 where
  pub formula : Formula
  pub read : IsFormulaOf text formula
  pub reject : Reject
  pub fails : FailsFirst formula log reject
  pub says : out ≡ reject_line reject
  pub refuted : status ≡ Refuted

-- it is one or the other
abbrev pub IsLogAnswer : List ℕ → Log → List ℕ → Status → Type 0
IsLogAnswer text log out status =
    SaysRefuted text log out status ⊎ SaysNotRefuted text log out status
