-- What `lrat` answers on an admitted protocol and the text of a log.
use Rattle.std.specs.Prelude.{◌≡◌, ◌⊎◌, ℕ, List}
use Rattle.ask_commands.specs.CheckAnswer.{IsCheckAskRefused, IsLogOnQuestion, SaysRejectedImpossible}
use Rattle.bspl_types.specs.declared.expanded.Expanded.{Expanded}
use Rattle.clause_core.specs.declared.formula.Formula.{Formula}
use Rattle.clause_encoding.specs.Formula.{IsFormula}
use Rattle.evidence_commands.specs.CheckAnswer.{IsCheckRefused, SaysRejected}
use Rattle.lrat_text.specs.Proof.{IsProofOf}
use Rattle.protocol_check.specs.Check.{property_of}
use Rattle.question_answer.specs.QuestionLog.{IsTitled}
use Rattle.question_formula.specs.Formula.{IsQuestionFormula}
use Rattle.questions.specs.declared.question.Question.{Question}
use Rattle.refutation_log.specs.declared.refutation.Kind.{Kind}
use Rattle.refutation_log.specs.declared.refutation.Log.{Log}
use Rattle.refutation_log.specs.declared.refutation.Version.{Version}
use Rattle.refutation_log.specs.LogText.{IsTextOf}
use Rattle.tool_input.specs.declared.need.Need.TheVariants.{Part}
use Rattle.tool_input.specs.Rules.{CommandRules}
use Rattle.tool_input.specs.declared.parts.Part.TheVariants as parts
use Rattle.tool_input.specs.declared.rejection.Rejection.{Rejection}
use Rattle.tool_input.specs.declared.status.Status.{Status}
use Rattle.tool_input.specs.declared.status.Status.TheVariants.{Done}

-- the text is a proof that refutes the formula, by the log
pub record SaysProof (IsIt : Formula → Type 0) (log : Log) (out : List ℕ) (status : Status)
    : Type 0 where
  pub formula : Formula
  pub is_formula : IsIt formula
  pub proves : IsProofOf formula log out
  pub done : status ≡ Done

-- it is such a proof, or the log is not accepted, as `check` says it
abbrev pub IsProofAnswer : Expanded → Kind → Log → List ℕ → Status → Type 0
IsProofAnswer x kind log out status =
    SaysProof (IsFormula (property_of kind) x) log out status ⊎ SaysRejected x kind log out status

-- so it is with the formula of a question, and what `ask` says with `--check`
abbrev pub IsQuestionProofAnswer : Expanded → Question → Log → List ℕ → Status → Type 0
IsQuestionProofAnswer x q log out status =
    SaysProof (IsQuestionFormula x q) log out status ⊎ SaysRejectedImpossible x q log out status

-- the part is the text of a log of a kind, and the output answers it
pub record IsKindLratAnswer (x : Expanded) (part out : List ℕ) (status : Status) : Type 0 where
  pub kind : Kind
  pub log : Log
  pub read : IsTextOf part kind log
  pub answer : IsProofAnswer x kind log out status

-- the part is the text of a log on a question, and the output answers it
pub record IsQuestionLratAnswer (x : Expanded) (part out : List ℕ) (status : Status) : Type 0 where
  pub spelling : List ℕ
  pub question : Question
  pub log : Log
  pub read : IsLogOnQuestion x part spelling question log
  pub answer : IsQuestionProofAnswer x question log out status

-- the part is the text of a log, and the output answers it
abbrev pub IsLratAnswer : Expanded → List ℕ → List ℕ → Status → Type 0
IsLratAnswer x part out status =
    IsKindLratAnswer x part out status ⊎ IsQuestionLratAnswer x part out status

-- the first line of the part is that of a log on a question, whatever the question is
pub record BeginsOnQuestion (part : List ℕ) : Type 0 where
  pub version : Version
  pub spelling : List ℕ
  pub rest : List ℕ
  pub titled : IsTitled part version spelling rest

-- after such a line the part is refused as by `ask` with `--check`, otherwise as by `check`
abbrev pub IsLratRefused : Expanded → List ℕ → Rejection → Type 0
IsLratRefused x part r =
    (BeginsOnQuestion part × IsCheckAskRefused x part r) ⊎
    ((¬ BeginsOnQuestion part) × IsCheckRefused part r)

-- it needs a log
abbrev pub lrat_rules : CommandRules
lrat_rules = record {
  needs = Part parts.Log;
  answers = IsLratAnswer;
  refuses = IsLratRefused;
  is_determined = ⊥;
}
