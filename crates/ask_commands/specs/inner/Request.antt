-- What arguments by their kinds request, as the code keeps it.
use Rattle.std.specs.Prelude.{ℕ, List, Option, None, Some, map}
use Rattle.ask_commands.specs.declared.arguments.Sorted.{Sorted}
use Rattle.ask_commands.specs.declared.command.AskRequest.{AskRequest}
use Rattle.ask_commands.specs.AskArguments.{AreByKind, ByKind}
use Rattle.ask_commands.specs.AskCommand.{ask_task}
use Rattle.ask_commands.specs.AskTask.{AskTask, AsksByKind}

-- the arguments by their kinds, as they are kept
abbrev pub by_kind_of : Sorted → ByKind
by_kind_of sorted = record {
  flags = sorted.flags;
  settings = map (λ arg. arg.now) sorted.settings;
  plain = map (λ arg. arg.now) sorted.plain;
}

-- the arguments are these, or some flag is there twice
abbrev pub IsSorted : List (List ℕ) → Option Sorted → Type 0
IsSorted args None = (a : ByKind) → ¬ AreByKind args a
IsSorted args (Some sorted) = AreByKind args (by_kind_of sorted)

-- they request what is asked, or nothing
abbrev pub IsRequestByKind : ByKind → Option AskRequest → Type 0
IsRequestByKind a None = (task : AskTask) (name : List ℕ) → ¬ AsksByKind a task name
IsRequestByKind a (Some request) = AsksByKind a (ask_task request.command) request.name.now
