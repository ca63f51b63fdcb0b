-- A question as answers spell it, in the first line of a log on it.
use Rattle.std.specs.Prelude.{◌≡◌, ℕ, List}
use Rattle.bspl_types.specs.declared.expanded.Expanded.{Expanded}
use Rattle.question_answer.specs.QuestionLog.{IsTitled}
use Rattle.question_text.specs.Meaning.{MeansQuestion}
use Rattle.question_text.specs.Tree.{Phrase}
use Rattle.questions.specs.declared.question.Question.{Question}
use Rattle.refutation_log.specs.declared.refutation.Version.{Version}
use Rattle.ask_commands.specs.AskAnswer.{phrase_spelling}
use Rattle.ask_commands.specs.AskTask.{IsTextOfPhrase}

-- the text is that of the phrase, spelled as in answers, and asks this question of the protocol
pub record IsSpelledQuestion (x : Expanded) (text : List ℕ) (phrase : Phrase) (q : Question)
    : Type 0 where
  pub read : IsTextOfPhrase text phrase
  pub spelled : text ≡ phrase_spelling phrase
  pub means : MeansQuestion x phrase q

-- the bytes begin with the first line of a log on a question so spelled
pub record HasQuestionTitle (x : Expanded) (bytes : List ℕ) : Type 0 where
  pub version : Version
  pub spelling : List ℕ
  pub rest : List ℕ
  pub titled : IsTitled bytes version spelling rest
  pub phrase : Phrase
  pub question : Question
  pub asks : IsSpelledQuestion x spelling phrase question
