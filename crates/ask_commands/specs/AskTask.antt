-- What `ask` is asked, and by which arguments.
use Rattle.std.specs.Prelude.{◌≡◌, ℕ, true, false, List, [], Option, None, Some}
use Rattle.question_text.specs.declared.tree.Tree.{Tree}
use Rattle.question_text.specs.Tree.{Phrase, phrase_of}
use Rattle.question_text.specs.QuestionText.{IsMisread, IsQuestionText}
use Rattle.question_text.specs.declared.fault.QuestionFault.{QuestionFault}
use Rattle.question_text.specs.declared.fault.QuestionFault.TheVariants as fault
use Rattle.tool_input.specs.declared.rejection.Code.TheVariants.{Q}
use Rattle.tool_input.specs.declared.rejection.Field.TheVariants as field
use Rattle.tool_input.specs.declared.rejection.Rejection.{Rejection}
use Rattle.tool_input.specs.Rejection.{with_one}
use Rattle.ask_commands.specs.declared.options.AskOptions.{AskOptions}
use Rattle.ask_commands.specs.AskArguments.{AreByKind, ByKind, IsNameOnly, IsNameWithText, SetsConflicts}

-- whether a question is possible; nothing, by a text that is no question; whether a log refutes its
-- question; whether the rules in the protocol's text are kept
pub data AskTask : Type 0 where
  Put : (phrase : Phrase) (options : AskOptions) → AskTask
  Misput : (r : Rejection) → AskTask
  Check : AskTask
  Judge : (options : AskOptions) → AskTask

-- a text that is no question is rejected by what is wrong with it
abbrev pub question_rejection : QuestionFault → Option Rejection
question_rejection (fault.Byte offset) = Some (with_one (Q 1) (field.Number offset))
question_rejection (fault.TooLong count) = Some (with_one (Q 2) (field.Number count))
question_rejection (fault.Syntax offset) = Some (with_one (Q 3) (field.Number offset))
question_rejection fault.NoMemory = None

-- such a task is refused at once, before anything is read
abbrev pub ask_refused_at_once : AskTask → Option Rejection
ask_refused_at_once (Misput r) = Some r
ask_refused_at_once task = None

-- the text is no question, and this rejects it
pub record IsMisputText (text : List ℕ) (r : Rejection) : Type 0 where
  pub fault : QuestionFault
  pub misread : IsMisread text fault
  pub rejection_is : question_rejection fault ≡ Some r

-- the text is the question of this phrase
pub record IsTextOfPhrase (text : List ℕ) (phrase : Phrase) : Type 0 where
  pub tree : Tree
  pub read : IsQuestionText text tree
  pub phrase_is : phrase_of tree ≡ phrase

-- the text puts the task
abbrev pub PutsText : List ℕ → AskOptions → AskTask → Type 0
PutsText text options (Put phrase others) = IsTextOfPhrase text phrase × (others ≡ options)
PutsText text options (Misput r) = IsMisputText text r
PutsText text options Check = ⊥
PutsText text options (Judge others) = ⊥

-- NAME and QUESTION, with or without options
pub record RequestsQuestion (a : ByKind) (name : List ℕ) (task : AskTask) : Type 0 where
  pub text : List ℕ
  pub options : AskOptions
  pub plain : IsNameWithText a.plain name text
  pub flags : a.flags ≡ record { brief = options.brief; check = false; all = false }
  pub conflicts : SetsConflicts a.settings options.conflicts
  pub puts : PutsText text options task

-- NAME and `--check`, without options
pub record AsksCheck (a : ByKind) (name : List ℕ) : Type 0 where
  pub plain : IsNameOnly a.plain name
  pub flags : a.flags ≡ record { brief = false; check = true; all = false }
  pub unset : a.settings ≡ []

-- NAME and `--all`, with or without options
pub record AsksRules (a : ByKind) (name : List ℕ) (options : AskOptions) : Type 0 where
  pub plain : IsNameOnly a.plain name
  pub flags : a.flags ≡ record { brief = options.brief; check = false; all = true }
  pub conflicts : SetsConflicts a.settings options.conflicts

-- the arguments by their kinds ask for the task on the protocol of the name
abbrev pub AsksByKind : ByKind → AskTask → List ℕ → Type 0
AsksByKind a (Put phrase options) name = RequestsQuestion a name (Put phrase options)
AsksByKind a (Misput r) name = RequestsQuestion a name (Misput r)
AsksByKind a Check name = AsksCheck a name
AsksByKind a (Judge options) name = AsksRules a name options

-- the arguments request the task on the protocol of the name
pub record RequestsAsk (args : List (List ℕ)) (task : AskTask) (name : List ℕ) : Type 0 where
  pub by_kind : ByKind
  pub sorted : AreByKind args by_kind
  pub asks : AsksByKind by_kind task name
