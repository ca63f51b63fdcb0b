-- What is replied to a log on a formula.
use Rattle.std.specs.Prelude.{◌≡◌, ◌⊎◌, ℕ, List}
use Rattle.clause_core.specs.declared.formula.Formula.{Formula}
use Rattle.log_checker.specs.declared.refusal.Reject.{Reject}
use Rattle.log_checker.specs.FirstFailure.{FailsFirst}
use Rattle.refutation_log.specs.declared.refutation.Log.{Log}
use Rattle.rejections.specs.FailureLine.{reject_line}
use Rattle.tool_input.specs.declared.status.Status.{Status}
use Rattle.tool_input.specs.declared.status.Status.TheVariants.{Refuted}
use Rattle.more_commands.specs.LratAnswer.{SaysProof}

-- the text names the first failure of the log
pub record SaysFirstFailure (f : Formula) (log : Log) (out : List ℕ) (status : Status)
    : Type 0 where
  pub reject : Reject
  pub fails : FailsFirst f log reject
  pub text : out ≡ reject_line reject
  pub refuted : status ≡ Refuted

-- the text is a proof that refutes the formula, by the log, or names the log's first failure
abbrev pub IsProofReply : Formula → Log → List ℕ → Status → Type 0
IsProofReply f log out status =
    SaysProof (λ g. g ≡ f) log out status ⊎ SaysFirstFailure f log out status
