-- What the arguments request, as the code keeps it.
use Rattle.std.specs.Prelude.{◌≡◌, ℕ, List, Option, None, Some}
use Rattle.ask_commands.specs.AskCommand.{ask_task}
use Rattle.ask_commands.specs.AskTask.{AskTask}
use Rattle.ask_commands.specs.Misread.{misread_rejection}
use Rattle.ask_commands.specs.declared.command.AskRequest.{AskRequest}
use Rattle.bspl_tool.specs.Request.{Requests}
use Rattle.bspl_tool.specs.declared.task.Task.{Task}
use Rattle.question_text.specs.Tree.{phrase_of}
use Rattle.more_commands.specs.declared.command.MoreCommand.{MoreCommand}
use Rattle.more_commands.specs.declared.command.MoreCommand.TheVariants as command
use Rattle.more_commands.specs.declared.formula_arguments.FormulaArgs.{FormulaArgs}
use Rattle.more_commands.specs.declared.formula_arguments.FormulaArgs.TheVariants as formula
use Rattle.more_commands.specs.declared.question.MoreQuestion.{MoreQuestion}
use Rattle.more_commands.specs.declared.word.CommandWord.{CommandWord}
use Rattle.more_commands.specs.ExplainAsk.{NamesAsk}
use Rattle.more_commands.specs.FormulaArguments.{Asked, Dead, FormulaSubject, Misput, NamesFormula, Whole}
use Rattle.more_commands.specs.Task.{Ask, AsksTask, Explain, ExplainAsk, Formula, Lrat, MoreTask}
use Rattle.more_commands.specs.Task.{Page, task_word}

-- the formula that is asked for
abbrev pub subject_of : FormulaArgs → FormulaSubject
subject_of (formula.Property property) = Whole property
subject_of (formula.Message message) = Dead message.now
subject_of (formula.Question tree) = Asked (phrase_of tree)
subject_of (formula.Misread misread) = Misput (misread_rejection misread)

-- the words stand for this formula, or for none
abbrev pub IsSubjectOf : List (List ℕ) → Option FormulaArgs → Type 0
IsSubjectOf words None = (subject : FormulaSubject) → ¬ NamesFormula words subject
IsSubjectOf words (Some args) = NamesFormula words (subject_of args)

-- the task of a command
abbrev pub more_task : MoreCommand → MoreTask
more_task (command.Ask asked) = Ask (ask_task asked)
more_task (command.Formula args) = Formula (subject_of args)
more_task command.Lrat = Lrat
more_task command.Page = Page
more_task (command.Explain task) = Explain task
more_task (command.ExplainAsk asked) = ExplainAsk (ask_task asked)

-- the arguments after the word of a command ask this, or nothing
abbrev pub IsAskedBy : CommandWord → List (List ℕ) → Option MoreQuestion → Type 0
IsAskedBy word args None =
    (task : MoreTask) (name : List ℕ) → task_word task ≡ word → ¬ AsksTask args task name
IsAskedBy word args (Some question) =
    (task_word (more_task question.command) ≡ word) ×
    AsksTask args (more_task question.command) question.name.now

-- the arguments request nothing of the tool
abbrev pub AskNoTask : List (List ℕ) → Type 0
AskNoTask args = (task : Task) (name : List ℕ) → ¬ Requests args task name

-- they are the word `ask`, and then request what is asked, or nothing
abbrev pub IsAskedAfterWord : List (List ℕ) → Option AskRequest → Type 0
IsAskedAfterWord args None = (task : AskTask) (name : List ℕ) → ¬ NamesAsk args task name
IsAskedAfterWord args (Some request) = NamesAsk args (ask_task request.command) request.name.now
