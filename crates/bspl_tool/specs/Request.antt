-- What the arguments request.
use Rattle.std.specs.Prelude.{◌≡◌, ℕ, ◌<◌, List, Option, Some}
use Rattle.command_line.specs.declared.line.CommandLine.{CommandLine}
use Rattle.command_line.specs.declared.line.Subject.{Subject}
use Rattle.command_line.specs.declared.line.Subject.TheVariants.{Protocol, Size}
use Rattle.command_line.specs.Line.{IsCommandLine}
use Rattle.bspl_tool.specs.declared.task.Task.{Task}
use Rattle.bspl_tool.specs.declared.task.Task.TheVariants.{Generate}
use Rattle.bspl_tool.specs.declared.wording.TheConstants.{STAGE}
use Rattle.bspl_tool.specs.Task.{task_of, task_threads}

-- the arguments are some command line
abbrev pub HasCommandLine : List (List ℕ) → Type 0
HasCommandLine args = (line : CommandLine) × IsCommandLine args line

-- a protocol of the size is generated, or the command is done on that of the name
abbrev pub subject_task : Subject → CommandLine → Option Task
subject_task (Size size) line = Some (Generate size line.conflicts line.threads)
subject_task (Protocol name) line = task_of line.command line.brief line.conflicts line.threads

-- the task of a command line
abbrev pub line_task : CommandLine → Option Task
line_task line = subject_task line.subject line

-- the subject is the protocol of that name; what is generated has one name whatever its size
abbrev pub NamesSubject : Subject → List ℕ → Type 0
NamesSubject (Protocol text) name = text.now ≡ name
NamesSubject (Size size) name = STAGE.now ≡ name

-- the arguments request the task on the protocol of that name
pub record Requests (args : List (List ℕ)) (task : Task) (name : List ℕ) : Type 0 where
  pub line : CommandLine
  pub is_line : IsCommandLine args line
  pub is_task : line_task line ≡ Some task
  pub about : NamesSubject line.subject name

-- the arguments request a task whose agents play in threads of their own
pub record IsThreaded (args : List (List ℕ)) : Type 0 where
  pub task : Task
  pub name : List ℕ
  pub requested : Requests args task name
  pub some : 0 < task_threads task
