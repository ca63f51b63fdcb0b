-- What a question means for the roles of a protocol, and what is read of a line.
use Rattle.std.specs.Prelude.{◌≡◌, ℕ, ⊤, List, length}
use Rattle.std.specs.List.{AllZip}
use Rattle.bspl_types.specs.declared.expanded.Expanded.{Expanded}
use Rattle.bspl_types.specs.declared.value.Value.{Value}
use Rattle.bspl_types.specs.ValueSpelling.{SpellsValue}
use Rattle.list_base.specs.Lines.{Line}
use Rattle.role_questions.specs.declared.question.Question.{Question}
use Rattle.role_questions.specs.declared.question.Question.TheVariants.{Enabled, History}
use Rattle.role_questions.specs.declared.question.Question.TheVariants.{Keys, Known, Status}
use Rattle.role_questions.specs.declared.question.QuestionReading.{QuestionReading}
use Rattle.role_questions.specs.declared.question.QuestionReading.TheVariants.{Meant}
use Rattle.role_questions.specs.declared.question.QuestionReading.TheVariants.{NotMeant, NotRead}
use Rattle.role_questions.specs.Questions.{Puts, TextQuestion, ask_enabled, ask_history, ask_keys}
use Rattle.role_questions.specs.Questions.{ask_known, ask_status}

-- the texts spell the key
abbrev pub SpellsKey : List (List ℕ) → List Value → Type 0
SpellsKey texts key = AllZip SpellsValue texts key

-- the question, with its key spelled
abbrev pub MeansAsked : TextQuestion → Question → Type 0
MeansAsked (ask_enabled texts) q = (key : List Value) × SpellsKey texts key × (q ≡ Enabled key)
MeansAsked (ask_known texts) q = (key : List Value) × SpellsKey texts key × (q ≡ Known key)
MeansAsked (ask_keys from most) q = q ≡ Keys from most
MeansAsked (ask_history from most) q = q ≡ History from most
MeansAsked ask_status q = q ≡ Status

-- a key that is asked about has a value for each of the protocol's
abbrev pub HasWholeKey : Expanded → Question → Type 0
HasWholeKey x (Enabled key) = length key ≡ length x.keys
HasWholeKey x (Known key) = length key ≡ length x.keys
HasWholeKey x (Keys from most) = ⊤
HasWholeKey x (History from most) = ⊤
HasWholeKey x Status = ⊤

-- the line puts the question
pub record PutsQuestion (x : Expanded) (line : Line) (q : Question) : Type 0 where
  pub asked : TextQuestion
  pub puts : Puts line asked
  pub means : MeansAsked asked q
  pub whole : HasWholeKey x q

-- the line puts a question that means nothing for the protocol
pub record PutsInVain (x : Expanded) (line : Line) : Type 0 where
  pub asked : TextQuestion
  pub puts : Puts line asked
  pub nothing : (q : Question) → MeansAsked asked q → ¬ HasWholeKey x q

-- the line puts no question
abbrev pub PutsNothing : Line → Type 0
PutsNothing line = (asked : TextQuestion) → ¬ Puts line asked

-- what is read of a line
abbrev pub IsQuestionReading : Expanded → Line → QuestionReading → Type 0
IsQuestionReading x line NotRead = PutsNothing line
IsQuestionReading x line NotMeant = PutsInVain x line
IsQuestionReading x line (Meant q) = PutsQuestion x line q
