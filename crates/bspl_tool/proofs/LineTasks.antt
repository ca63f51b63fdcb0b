-- Each command line requests a task.
use Rattle.std.proofs.Common.{◌≡◌, ℕ, Bool, true, false, List, codes, Some, refl}
use Rattle.command_line.specs.declared.command.Command.{Command}
use Rattle.command_line.specs.declared.command.Command.TheVariants as command
use Rattle.command_line.specs.declared.line.CommandLine.{CommandLine}
use Rattle.command_line.specs.declared.line.Subject.{Subject}
use Rattle.command_line.specs.declared.line.Subject.TheVariants.{Protocol, Size}
use Rattle.command_line.specs.Command.{takes_size}
use Rattle.command_line.specs.Line.{IsCommandLine, IsSubject}
use Rattle.tool_input.specs.Interface.{HasTask}
use Rattle.bspl_tool.specs.declared.task.Task.{Task}
use Rattle.bspl_tool.specs.declared.task.Task.TheVariants as tasks
use Rattle.bspl_tool.specs.Interface.{tool_interface}
use Rattle.bspl_tool.specs.Request.{NamesSubject, subject_task}
use Rattle.bspl_tool.specs.Task.{task_of}

-- a command that takes no size has a task
command_task : (c : Command) (brief : Bool) (conflicts threads : ℕ) → takes_size c ≡ false → (task : Task) × (task_of c brief conflicts threads ≡ Some task)
command_task command.Generate brief conflicts threads named = absurd (let is = named in cc)
command_task command.Verify brief conflicts threads named = (tasks.Verify brief conflicts, refl)
command_task command.Check brief conflicts threads named = (tasks.Check, refl)
command_task command.Replay brief conflicts threads named = (tasks.Replay, refl)
command_task command.Expand brief conflicts threads named = (tasks.Expand, refl)
command_task command.Run brief conflicts threads named = (tasks.Run brief conflicts threads, refl)
command_task command.Restart brief conflicts threads named = (tasks.Restart brief conflicts, refl)
command_task command.Dead brief conflicts threads named = (tasks.Dead brief conflicts, refl)
command_task command.CheckDead brief conflicts threads named = (tasks.CheckDead, refl)
command_task command.Serve brief conflicts threads named = (tasks.Serve, refl)
command_task command.Audit brief conflicts threads named = (tasks.Audit, refl)

-- a task, and the name that it is about
abbrev HasSubjectTask : Subject → CommandLine → Type 0
HasSubjectTask subject line = (task : Task) × (name : List ℕ) × (subject_task subject line ≡ Some task) × NamesSubject subject name

-- a command that is done on the protocol of a name takes no size
takes_none : (size : Bool) (word : List ℕ) (text : _) → IsSubject size word (Protocol text) → size ≡ false
takes_none true word text is = absurd is
takes_none false word text is = refl

-- each subject of a command line has them
subject_has_task : (subject : Subject) (line : CommandLine) (word : List ℕ) → IsSubject (takes_size line.command) word subject → HasSubjectTask subject line
subject_has_task (Size size) line word is = (tasks.Generate size line.conflicts line.threads, codes "Stage", refl, refl)
subject_has_task (Protocol text) line word is =
    let task = command_task line.command line.brief line.conflicts line.threads (takes_none (takes_size line.command) word text is) in
    (task.0, text.now, task.1, refl)

-- so has each command line
pub line_has_task : (args : List (List ℕ)) (line : CommandLine) → IsCommandLine args line → HasTask tool_interface args
line_has_task args line is =
    let has = subject_has_task line.subject line is.line_of.word is.line_of.subject in
    (has.0, has.1, record { line = line; is_line = is; is_task = has.2; about = has.3 })
