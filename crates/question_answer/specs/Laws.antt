-- What a log on a question and its text are answered by. Each statement is the contract of a
-- function.
use Rattle.std.specs.Prelude.{◌≡◌, ◌≢◌, ◌≤◌, ℕ, All, List, length}
use Rattle.bspl_types.specs.declared.expanded.Expanded.{Expanded}
use Rattle.log_checker.specs.declared.refusal.Reject.{Reject}
use Rattle.questions.specs.declared.question.Question.{Question}
use Rattle.refutation_log.specs.declared.refusal.LogRefusal.{LogRefusal}
use Rattle.refutation_log.specs.declared.refusal.LogRefusal.TheVariants.{NoMemory}
use Rattle.refutation_log.specs.declared.refutation.Log.{Log}
use Rattle.refutation_log.specs.declared.refutation.Version.{Version}
use Rattle.refutation_log.specs.LogText.{LogInRange}
use Rattle.question_answer.specs.Check.{AcceptsImpossible, FailsImpossible}
use Rattle.question_answer.specs.QuestionLog.{IsQuestionLogText, IsRefusedRest, IsRestOfLog, IsTitled, question_log_text}

-- a log has one first failure at most
abbrev pub QuestionLogFailsOnce : Type 0
QuestionLogFailsOnce =
    (x : Expanded) (q : Question) (log : Log) (first second : Reject) →
    FailsImpossible x q log first → FailsImpossible x q log second → first ≡ second

-- and none if it is accepted
abbrev pub AcceptedQuestionLogDoesNotFail : Type 0
AcceptedQuestionLogDoesNotFail =
    (x : Expanded) (q : Question) (log : Log) (reject : Reject) →
    AcceptsImpossible x q log → ¬ FailsImpossible x q log reject

-- what is written of a log is a text of it
abbrev pub WrittenIsQuestionLog : Type 0
WrittenIsQuestionLog =
    (spelling : List ℕ) (log : Log) → All (λ byte. byte ≢ 10) spelling → LogInRange log →
    IsQuestionLogText (question_log_text spelling log) spelling log

-- bytes have one first line
pub record AreTitledOnce (version other : Version) (spelling another rest more : List ℕ)
    : Type 0 where
  pub versions : version ≡ other
  pub spellings : spelling ≡ another
  pub rests : rest ≡ more

abbrev pub BytesAreTitledOnce : Type 0
BytesAreTitledOnce =
    (bytes spelling another rest more : List ℕ) (version other : Version) →
    IsTitled bytes version spelling rest → IsTitled bytes other another more →
    AreTitledOnce version other spelling another rest more

-- what follows it is that of one log at most, or refused for one thing, and not both
abbrev pub RestHasOneLog : Type 0
RestHasOneLog =
    (version : Version) (rest : List ℕ) (log another : Log) →
    IsRestOfLog version rest log → IsRestOfLog version rest another → log ≡ another

abbrev pub RestHasOneRefusal : Type 0
RestHasOneRefusal =
    (version : Version) (rest : List ℕ) (refusal other : LogRefusal) → refusal ≢ NoMemory →
    other ≢ NoMemory → IsRefusedRest version rest refusal → IsRefusedRest version rest other →
    refusal ≡ other

abbrev pub LogRestIsNotRefused : Type 0
LogRestIsNotRefused =
    (version : Version) (rest : List ℕ) (log : Log) (refusal : LogRefusal) →
    refusal ≢ NoMemory → IsRestOfLog version rest log → ¬ IsRefusedRest version rest refusal

-- a log has no more steps than its text has bytes
abbrev pub QuestionStepsAreFewerThanBytes : Type 0
QuestionStepsAreFewerThanBytes =
    (version : Version) (rest : List ℕ) (log : Log) → IsRestOfLog version rest log →
    length log.steps ≤ length rest
