-- What the arguments request, as the code keeps it.
use Rattle.std.specs.Prelude.{ℕ, List, Option, None, Some}
use Rattle.question_text.specs.Tree.{phrase_of}
use Rattle.ask_commands.specs.declared.command.AskCommand.{AskCommand}
use Rattle.ask_commands.specs.declared.command.AskCommand.TheVariants as command
use Rattle.ask_commands.specs.declared.command.AskRequest.{AskRequest}
use Rattle.ask_commands.specs.AskTask.{AskTask, Check, Judge, Misput, Put, RequestsAsk}
use Rattle.ask_commands.specs.Misread.{misread_rejection}

-- the task of a command
abbrev pub ask_task : AskCommand → AskTask
ask_task (command.Put question options) = Put (phrase_of question) options
ask_task (command.Misread misread) = Misput (misread_rejection misread)
ask_task command.Check = Check
ask_task (command.Judge options) = Judge options

-- the arguments request what is asked, or nothing
abbrev pub IsAskRequest : List (List ℕ) → Option AskRequest → Type 0
IsAskRequest args None = (task : AskTask) (name : List ℕ) → ¬ RequestsAsk args task name
IsAskRequest args (Some request) = RequestsAsk args (ask_task request.command) request.name.now
