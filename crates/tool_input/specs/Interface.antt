-- What a program of commands is: its tasks, and what the arguments request.
use Rattle.std.specs.Prelude.{◌≡◌, ℕ, List, Option, None, unwrap_or}
use Rattle.tool_input.specs.declared.rejection.Rejection.{Rejection}
use Rattle.tool_input.specs.Rules.{CommandRules}

-- the interface of a program with these tasks
pub record Interface (Task : Type 0) : Type 1 where
  -- the line for arguments that request no task
  pub usage : List ℕ
  -- the arguments request the task on the protocol of that name
  pub requests : List (List ℕ) → Task → List ℕ → Type 0
  -- the rules of the task
  pub rules : Task → CommandRules
  -- the text that the task makes for itself and is done on in place of the input
  pub own_text : Task → Option (List ℕ)
  -- why the task is refused at once, before anything is read
  pub refused_at_once : Task → Option Rejection
  -- how a refusal of the task on these bytes is written
  pub refusal_text : Task → List ℕ → Rejection → List ℕ → Type 0

-- the arguments request some task
abbrev pub HasTask : {Task : Type 0} → Interface Task → List (List ℕ) → Type 0
HasTask {Task} i args = (task : Task) × (name : List ℕ) × i.requests args task name

-- some arguments request the task on that name
abbrev pub IsSomeRequest : {Task : Type 0} → Interface Task → Task → List ℕ → Type 0
IsSomeRequest i task name = (args : List (List ℕ)) × i.requests args task name

-- the arguments ask for the input: they request a task that is not refused at once and has no text
-- of its own
pub record RequestsInput {Task : Type 0} (i : Interface Task) (args : List (List ℕ))
    : Type 0 where
  pub task : Task
  pub name : List ℕ
  pub requested : i.requests args task name
  pub accepted : i.refused_at_once task ≡ None
  pub reads : i.own_text task ≡ None

-- the bytes that a task is done on: its own text, or the input
abbrev pub task_bytes : {Task : Type 0} → Interface Task → Task → List ℕ → List ℕ
task_bytes i task input = unwrap_or (i.own_text task) input
