-- What the arguments of `formula` ask.
use Rattle.std.specs.Prelude.{◌≡◌, ℕ, ◌≤◌, List, [], ◌∷◌, length, Option, None, Some, IsTrue}
use Rattle.ask_commands.specs.AskTask.{IsMisputText, IsTextOfPhrase}
use Rattle.bspl_types.specs.Name.{is_name}
use Rattle.bspl_types.specs.declared.property.Property.{Property}
use Rattle.bspl_types.specs.declared.property.Property.TheVariants.{Liveness, Safety}
use Rattle.question_text.specs.Tree.{Phrase}
use Rattle.tool_input.specs.declared.rejection.Rejection.{Rejection}
use Rattle.more_commands.specs.declared.wording.TheConstants as wording

-- which formula of a protocol: that of a property, of a message by its name, or of a question; or
-- none, by a text that is no question
pub data FormulaSubject : Type 0 where
  Whole : (property : Property) → FormulaSubject
  Dead : (message : List ℕ) → FormulaSubject
  Asked : (phrase : Phrase) → FormulaSubject
  Misput : (r : Rejection) → FormulaSubject

-- no formula is refused at once, before anything is read
abbrev pub formula_refused_at_once : FormulaSubject → Option Rejection
formula_refused_at_once (Misput r) = Some r
formula_refused_at_once subject = None

-- the word for a property
abbrev pub property_word : Property → List ℕ
property_word Safety = wording.SAFETY.now
property_word Liveness = wording.LIVENESS.now

-- the words are that for a question and a text, whose offsets a count of 32 bits can give; of the
-- text this holds
pub record PutText (words : List (List ℕ)) (Holds : List ℕ → Type 0) : Type 0 where
  pub text : List ℕ
  pub words_are : words ≡ wording.ASK.now ∷ text ∷ []
  pub short : length text ≤ 4294967295
  pub holds : Holds text

-- the words stand for the formula; a message has a name of the language
abbrev pub NamesFormula : List (List ℕ) → FormulaSubject → Type 0
NamesFormula words (Whole property) = words ≡ property_word property ∷ []
NamesFormula words (Dead message) =
    (words ≡ wording.DEAD.now ∷ message ∷ []) × IsTrue (is_name message)
NamesFormula words (Asked phrase) = PutText words (λ text. IsTextOfPhrase text phrase)
NamesFormula words (Misput r) = PutText words (λ text. IsMisputText text r)

-- the arguments are the name of a protocol and the words for the formula
pub record AsksFormula (args : List (List ℕ)) (name : List ℕ) (subject : FormulaSubject)
    : Type 0 where
  pub words : List (List ℕ)
  pub arguments : args ≡ name ∷ words
  pub named : IsTrue (is_name name)
  pub subject_is : NamesFormula words subject
