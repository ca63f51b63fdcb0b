-- What is replied to a log on a formula answers the command.
use Rattle.std.proofs.Common.{◌≡◌, ℕ, List, inl, inr, sym, subst}
use Rattle.ask_commands.specs.CheckAnswer.{IsCheckAskRefused}
use Rattle.bspl_types.specs.declared.expanded.Expanded.{Expanded}
use Rattle.clause_core.specs.declared.formula.Formula.{Formula}
use Rattle.clause_encoding.specs.Formula.{IsFormula}
use Rattle.evidence_commands.specs.CheckAnswer.{IsCheckRefused}
use Rattle.protocol_check.specs.Check.{property_of}
use Rattle.question_formula.specs.Formula.{IsQuestionFormula}
use Rattle.questions.specs.declared.question.Question.{Question}
use Rattle.refutation_log.specs.declared.refutation.Kind.{Kind}
use Rattle.refutation_log.specs.declared.refutation.Log.{Log}
use Rattle.tool_input.specs.declared.answer_error.AnswerError.{AnswerError}
use Rattle.tool_input.specs.declared.answer_error.AnswerError.TheVariants as error
use Rattle.tool_input.specs.declared.status.Status.{Status}
use Rattle.tool_input.specs.Error.{RejectsFor}
use Rattle.more_commands.specs.LratAnswer.{BeginsOnQuestion, IsLratRefused, IsProofAnswer, IsQuestionProofAnswer, SaysProof}
use Rattle.more_commands.specs.inner.Proof.{IsProofReply}

-- a proof of a formula is one of each formula of that sort
proof_of : (IsIt : Formula → Type 0) (f : Formula) (log : Log) (out : List ℕ) (status : Status) → IsIt f → SaysProof (λ g. g ≡ f) log out status → SaysProof IsIt log out status
proof_of IsIt f log out status is says =
    let same : says.formula ≡ f = says.is_formula in
    record { formula = says.formula; is_formula = subst IsIt (sym same) is; proves = says.proves; done = says.done }

-- of a verdict
pub kind_proof : (x : Expanded) (kind : Kind) (f : Formula) (log : Log) (out : List ℕ) (status : Status) → IsFormula (property_of kind) x f → IsProofReply f log out status → IsProofAnswer x kind log out status
kind_proof x kind f log out status is reply =
    elim reply [
      | inl says ↦ inl (proof_of (IsFormula (property_of kind) x) f log out status is says)
      | inr fails ↦ inr (record { reject = fails.reject; fails = record { formula = f; is_formula = is; fails = fails.fails }; text = fails.text; refuted = fails.refuted })
    ]

-- and of a question
pub question_proof : (x : Expanded) (q : Question) (f : Formula) (log : Log) (out : List ℕ) (status : Status) → IsQuestionFormula x q f → IsProofReply f log out status → IsQuestionProofAnswer x q log out status
question_proof x q f log out status is reply =
    elim reply [
      | inl says ↦ inl (proof_of (IsQuestionFormula x q) f log out status is says)
      | inr fails ↦ inr (record { reject = fails.reject; fails = record { formula = f; is_formula = is; fails = fails.fails }; text = fails.text; refuted = fails.refuted })
    ]

-- what is refused after the first line of a log on a question
pub refused_on_question : (x : Expanded) (part : List ℕ) → BeginsOnQuestion part → (e : AnswerError) → RejectsFor (IsCheckAskRefused x part) e → RejectsFor (IsLratRefused x part) e
refused_on_question x part begins (error.Rejected r) is = inl (begins, is)
refused_on_question x part begins error.NoMemory is = is

-- and otherwise
pub refused_on_kind : (x : Expanded) (part : List ℕ) → ¬ BeginsOnQuestion part → (e : AnswerError) → RejectsFor (IsCheckRefused part) e → RejectsFor (IsLratRefused x part) e
refused_on_kind x part none (error.Rejected r) is = inr (none, is)
refused_on_kind x part none error.NoMemory is = is
