-- The commands: what each is asked, by which arguments, and by which rules it answers.
use Rattle.std.specs.Prelude.{◌≡◌, ℕ, List, [], ◌∷◌, Option, None, IsTrue}
use Rattle.ask_commands.specs.AskRules.{ask_rules}
use Rattle.ask_commands.specs.AskTask.{AskTask, RequestsAsk, ask_refused_at_once}
use Rattle.bspl_tool.specs.declared.task.Task.{Task}
use Rattle.bspl_tool.specs.Request.{Requests}
use Rattle.bspl_tool.specs.Task.{own_text}
use Rattle.bspl_types.specs.Name.{is_name}
use Rattle.tool_input.specs.Rules.{CommandRules}
use Rattle.tool_input.specs.declared.rejection.Rejection.{Rejection}
use Rattle.more_commands.specs.declared.wording.TheConstants as wording
use Rattle.more_commands.specs.declared.word.CommandWord.{CommandWord}
use Rattle.more_commands.specs.declared.word.CommandWord.TheVariants as word
use Rattle.more_commands.specs.ExplainAnswer.{explain_rules}
use Rattle.more_commands.specs.ExplainAsk.{NamesAsk, explain_ask_rules}
use Rattle.more_commands.specs.FormulaAnswer.{formula_rules}
use Rattle.more_commands.specs.FormulaArguments.{AsksFormula, FormulaSubject, formula_refused_at_once}
use Rattle.more_commands.specs.LratAnswer.{lrat_rules}
use Rattle.more_commands.specs.PageAnswer.{page_rules}

-- a question is asked, a formula is printed, a log becomes a proof in LRAT form, a page is made, a
-- task of the tool is done in words, or a question is asked in words
pub data MoreTask : Type 0 where
  Ask : (task : AskTask) → MoreTask
  Formula : (subject : FormulaSubject) → MoreTask
  Lrat : MoreTask
  Page : MoreTask
  Explain : (task : Task) → MoreTask
  ExplainAsk : (task : AskTask) → MoreTask

-- the text of the word of a command
abbrev pub word_text : CommandWord → List ℕ
word_text word.Ask = wording.ASK.now
word_text word.Formula = wording.FORMULA.now
word_text word.Lrat = wording.LRAT.now
word_text word.Page = wording.PAGE.now
word_text word.Explain = wording.EXPLAIN.now

-- the word of a task's command
abbrev pub task_word : MoreTask → CommandWord
task_word (Ask task) = word.Ask
task_word (Formula subject) = word.Formula
task_word Lrat = word.Lrat
task_word Page = word.Page
task_word (Explain task) = word.Explain
task_word (ExplainAsk task) = word.Explain

-- the only argument is the name of a protocol
pub record IsNameAlone (args : List (List ℕ)) (name : List ℕ) : Type 0 where
  pub arguments : args ≡ name ∷ []
  pub named : IsTrue (is_name name)

-- the arguments after that word ask for the task on the protocol of the name
abbrev pub AsksTask : List (List ℕ) → MoreTask → List ℕ → Type 0
AsksTask args (Ask task) name = RequestsAsk args task name
AsksTask args (Formula subject) name = AsksFormula args name subject
AsksTask args Lrat name = IsNameAlone args name
AsksTask args Page name = IsNameAlone args name
AsksTask args (Explain task) name = Requests args task name
AsksTask args (ExplainAsk task) name = NamesAsk args task name

-- the arguments request the task on the protocol of the name
pub record RequestsMore (args : List (List ℕ)) (task : MoreTask) (name : List ℕ) : Type 0 where
  pub rest : List (List ℕ)
  pub arguments : args ≡ word_text (task_word task) ∷ rest
  pub asks : AsksTask rest task name

-- the rules of each task
abbrev pub more_rules : MoreTask → CommandRules
more_rules (Ask task) = ask_rules task
more_rules (Formula subject) = formula_rules subject
more_rules Lrat = lrat_rules
more_rules Page = page_rules
more_rules (Explain task) = explain_rules task
more_rules (ExplainAsk task) = explain_ask_rules task

-- the text that a task makes for itself: that of the tool's task
abbrev pub more_own_text : MoreTask → Option (List ℕ)
more_own_text (Explain task) = own_text task
more_own_text task = None

-- a text that is no question is refused at once
abbrev pub more_refused_at_once : MoreTask → Option Rejection
more_refused_at_once (Ask task) = ask_refused_at_once task
more_refused_at_once (Formula subject) = formula_refused_at_once subject
more_refused_at_once (ExplainAsk task) = ask_refused_at_once task
more_refused_at_once task = None
