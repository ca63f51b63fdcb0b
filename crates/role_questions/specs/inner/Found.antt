-- What was found in a JSON value of a question.
use Rattle.std.specs.Prelude.{◌≡◌, ℕ, List, length}
use Rattle.wire_form.specs.Texts.{texts_in}
use Rattle.bspl_types.specs.declared.expanded.Expanded.{Expanded}
use Rattle.bspl_types.specs.declared.value.Value.{Value}
use Rattle.role_questions.specs.declared.found.Found.{Found}
use Rattle.role_questions.specs.declared.found.Found.TheVariants.{Enabled, History, Keys}
use Rattle.role_questions.specs.declared.found.Found.TheVariants.{Known, Status}
use Rattle.role_questions.specs.declared.question.Question.{Question}
use Rattle.role_questions.specs.Meaning.{HasWholeKey, MeansAsked, SpellsKey}
use Rattle.role_questions.specs.Questions.{TextQuestion, ask_enabled, ask_history, ask_keys}
use Rattle.role_questions.specs.Questions.{ask_known, ask_status}

-- the question that was found
abbrev pub question_in : Found → TextQuestion
question_in (Enabled key) = ask_enabled (texts_in key.now.items)
question_in (Known key) = ask_known (texts_in key.now.items)
question_in (Keys from most) = ask_keys from most
question_in (History from most) = ask_history from most
question_in Status = ask_status

-- the texts spell this key, which has a value for each of the protocol's
pub record IsKeyOf (x : Expanded) (texts : List (List ℕ)) (key : List Value) : Type 0 where
  pub spelled : SpellsKey texts key
  pub whole : length key ≡ length x.keys

-- the question is what the texts mean
pub record IsMeantBy (x : Expanded) (asked : TextQuestion) (q : Question) : Type 0 where
  pub means : MeansAsked asked q
  pub whole : HasWholeKey x q
