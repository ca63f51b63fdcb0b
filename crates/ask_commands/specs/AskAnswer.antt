-- What `ask` answers to a question on an admitted protocol.
use Rattle.std.specs.Prelude.{◌≡◌, ℕ, Bool, if◌then◌else◌, List, [], ◌∷◌, ◌++◌, length, codes, Option, None, Some}
use Rattle.bspl_parser.specs.Separated.{space_separated}
use Rattle.bspl_types.specs.declared.expanded.Expanded.{Expanded}
use Rattle.list_base.specs.Lines.{line_of}
use Rattle.list_base.specs.Numeral.{numeral}
use Rattle.question_answer.specs.declared.answer.Answer.{Answer}
use Rattle.question_answer.specs.declared.answer.Answer.TheVariants.{Impossible, Possible, Undecided}
use Rattle.question_answer.specs.Answer.{HasEvidence}
use Rattle.question_answer.specs.QuestionLog.{question_log_text}
use Rattle.question_text.specs.declared.unknown.UnknownName.{UnknownName}
use Rattle.question_text.specs.declared.unknown.UnknownName.TheVariants.{Message, NoMemory, Parameter, Role}
use Rattle.question_text.specs.Meaning.{MeansQuestion}
use Rattle.question_text.specs.Tree.{Phrase, words_of_phrase}
use Rattle.question_text.specs.Unknown.{IsUnknownIn, names_in}
use Rattle.questions.specs.declared.question.Question.{Question}
use Rattle.refutation_log.specs.declared.refutation.Log.{Log}
use Rattle.run_text.specs.RunText.{run_text}
use Rattle.tool_input.specs.declared.need.Need.TheVariants.{Nothing}
use Rattle.tool_input.specs.declared.rejection.Rejection.{Rejection}
use Rattle.tool_input.specs.declared.status.Status.{Status}
use Rattle.tool_input.specs.declared.status.Status.TheVariants as status
use Rattle.tool_input.specs.Rules.{CommandRules}
use Rattle.tool_input.specs.MessageName.{unknown_message}
use Rattle.tool_input.specs.UndeclaredName.{undeclared_parameter, undeclared_role}
use Rattle.ask_commands.specs.declared.options.AskOptions.{AskOptions}

-- a question as it is spelled in answers: its words, with one space between two
abbrev pub phrase_spelling : Phrase → List ℕ
phrase_spelling phrase = space_separated (words_of_phrase phrase)

-- the line with the name of the protocol
abbrev pub asked_protocol_line : Expanded → List ℕ
asked_protocol_line x = line_of (codes "protocol" ∷ x.name ∷ [])

-- the words of the answer; of a search that came to its budget also how many steps its log has
abbrev pub possibility_words : Answer → List (List ℕ)
possibility_words (Possible run) = codes "possible" ∷ []
possibility_words (Impossible log) = codes "impossible" ∷ []
possibility_words (Undecided log) = codes "undecided" ∷ numeral (length log.steps) ∷ []

-- its line: these words, and the question
abbrev pub possibility_line : List ℕ → Answer → List ℕ
possibility_line spelling answer = line_of (possibility_words answer ++ spelling ∷ [])

-- the text of a log, unless the text is brief
abbrev pub question_log_part : List ℕ → Bool → Log → List ℕ
question_log_part spelling brief log = if brief then [] else question_log_text spelling log

-- its evidence: a log, or always the run
abbrev pub possibility_evidence : Expanded → List ℕ → Bool → Answer → List ℕ
possibility_evidence x spelling brief (Possible run) = run_text x run
possibility_evidence x spelling brief (Impossible log) = question_log_part spelling brief log
possibility_evidence x spelling brief (Undecided log) = question_log_part spelling brief log

-- the line of the protocol, the line of the answer, and the evidence
abbrev pub ask_text : Expanded → List ℕ → Bool → Answer → List ℕ
ask_text x spelling brief answer =
    asked_protocol_line x ++ possibility_line spelling answer ++
    possibility_evidence x spelling brief answer

-- the status of the answer
abbrev pub possibility_status : Answer → Status
possibility_status (Possible run) = status.Done
possibility_status (Impossible log) = status.Refuted
possibility_status (Undecided log) = status.Undecided

-- the phrase asks this question of the protocol, and this is a right answer with its evidence, as
-- text and status
pub record IsAskAnswer (x : Expanded) (phrase : Phrase) (options : AskOptions) (out : List ℕ)
    (ends : Status) : Type 0 where
  pub question : Question
  pub means : MeansQuestion x phrase question
  pub answer : Answer
  pub right : HasEvidence x question options.conflicts answer
  pub text : out ≡ ask_text x (phrase_spelling phrase) options.brief answer
  pub ends_is : ends ≡ possibility_status answer

-- a name that the protocol does not have is rejected by what it has to be the name of
abbrev pub name_rejection : UnknownName → Option Rejection
name_rejection (Message name) = Some (unknown_message name)
name_rejection (Role name) = Some (undeclared_role name)
name_rejection (Parameter name) = Some (undeclared_parameter name)
name_rejection NoMemory = None

-- the first name of the phrase that the protocol does not have is reported
pub record IsAskRefused (x : Expanded) (phrase : Phrase) (r : Rejection) : Type 0 where
  pub unknown : UnknownName
  pub first : IsUnknownIn x (names_in phrase) unknown
  pub rejection_is : name_rejection unknown ≡ Some r

-- it needs the protocol alone; its evidence may be another
abbrev pub question_rules : Phrase → AskOptions → CommandRules
question_rules phrase options = record {
  needs = Nothing;
  answers = λ x given. IsAskAnswer x phrase options;
  refuses = λ x given. IsAskRefused x phrase;
  is_determined = ⊥;
}
