-- The tool as a program of commands.
use Rattle.std.specs.Prelude.{◌≡◌, ℕ, List, Option, None}
use Rattle.tool_input.specs.Interface.{Interface, task_bytes}
use Rattle.tool_input.specs.Request.{IsRequest}
use Rattle.tool_input.specs.Parts.{protocol_text}
use Rattle.tool_input.specs.Rejection.{rejection_line}
use Rattle.bspl_tool.specs.declared.question.ToolQuestion.{ToolQuestion}
use Rattle.bspl_tool.specs.declared.task.Task.{Task}
use Rattle.bspl_tool.specs.Request.{Requests}
use Rattle.bspl_tool.specs.Task.{own_text, task_rules}
use Rattle.bspl_tool.specs.Texts.{usage_text}

-- its tasks, and how arguments request them; none is refused at once, and a refusal is written as its
-- line
abbrev pub tool_interface : Interface Task
tool_interface = record {
  usage = usage_text;
  requests = Requests;
  rules = task_rules;
  own_text = own_text;
  refused_at_once = λ task. None;
  refusal_text = λ task input rejection out. out ≡ rejection_line rejection;
}

-- the text that declares the protocol which the task judges: the protocol text of the bytes that it
-- is done on
abbrev pub judged_text : Task → List ℕ → List ℕ
judged_text task input = protocol_text (task_bytes tool_interface task input)

-- the arguments request what is asked: this task on this name, or no task
abbrev pub IsToolRequest : List (List ℕ) → Option ToolQuestion → Type 0
IsToolRequest = IsRequest tool_interface (λ question. question.task) (λ question. question.name.now)
