-- What `formula` answers on an admitted protocol.
use Rattle.std.specs.Prelude.{◌≡◌, ℕ, List, ⊤}
use Rattle.ask_commands.specs.AskAnswer.{IsAskRefused, phrase_spelling}
use Rattle.bspl_types.specs.declared.expanded.Expanded.{Expanded}
use Rattle.formula_text.specs.AskedText.{IsQuestionFormulaText}
use Rattle.formula_text.specs.FormulaText.{IsEnactText, IsFormulaText}
use Rattle.question_text.specs.Meaning.{MeansQuestion}
use Rattle.question_text.specs.Tree.{Phrase}
use Rattle.questions.specs.declared.question.Question.{Question}
use Rattle.tool_input.specs.declared.need.Need.TheVariants.{Nothing}
use Rattle.tool_input.specs.Rules.{CommandRules}
use Rattle.tool_input.specs.declared.rejection.Rejection.{Rejection}
use Rattle.tool_input.specs.declared.status.Status.{Status}
use Rattle.tool_input.specs.declared.status.Status.TheVariants.{Done}
use Rattle.bspl_types.specs.NamedParts.{IsMessageNamed}
use Rattle.tool_input.specs.MessageName.{unknown_message}
use Rattle.more_commands.specs.FormulaArguments.{Asked, Dead, FormulaSubject, Misput, Whole}

-- the text is that of the formula in which the message of the name is sent
pub record IsNamedText (x : Expanded) (name text : List ℕ) : Type 0 where
  pub message : ℕ
  pub named : IsMessageNamed x name message
  pub text_is : IsEnactText x message text

-- the text is that of the formula of the question that the phrase asks, after the question as it is
-- spelled in answers
pub record IsAskedText (x : Expanded) (phrase : Phrase) (text : List ℕ) : Type 0 where
  pub question : Question
  pub means : MeansQuestion x phrase question
  pub text_is : IsQuestionFormulaText (phrase_spelling phrase) x question text

-- the text is that of the formula that is asked for
abbrev pub IsTextOfSubject : FormulaSubject → Expanded → List ℕ → Type 0
IsTextOfSubject (Whole property) x text = IsFormulaText property x text
IsTextOfSubject (Dead name) x text = IsNamedText x name text
IsTextOfSubject (Asked phrase) x text = IsAskedText x phrase text
IsTextOfSubject (Misput r) x text = ⊥

-- it is printed
pub record PrintsFormula (x : Expanded) (subject : FormulaSubject) (out : List ℕ)
    (status : Status) : Type 0 where
  pub printed : IsTextOfSubject subject x out
  pub done : status ≡ Done

-- the protocol has no message of the name
pub record HasNoMessage (x : Expanded) (message : List ℕ) (r : Rejection) : Type 0 where
  pub unknown : (m : ℕ) → ¬ IsMessageNamed x message m
  pub rejection_is : r ≡ unknown_message message

-- the protocol lacks a name that is asked for, or the text is no question
abbrev pub IsFormulaRefused : Expanded → FormulaSubject → Rejection → Type 0
IsFormulaRefused x (Whole property) r = ⊥
IsFormulaRefused x (Dead message) r = HasNoMessage x message r
IsFormulaRefused x (Asked phrase) r = IsAskRefused x phrase r
IsFormulaRefused x (Misput reason) r = r ≡ reason

-- it needs the protocol alone, and gives one text or one refusal
abbrev pub formula_rules : FormulaSubject → CommandRules
formula_rules subject = record {
  needs = Nothing;
  answers = λ x given. PrintsFormula x subject;
  refuses = λ x given. IsFormulaRefused x subject;
  is_determined = ⊤;
}
