-- What calls say, and which outputs are the only ones.
use Rattle.std.specs.Prelude.{◌≡◌, ℕ, List}
use Rattle.bspl_io.specs.Traffic.{Traffic}
use Rattle.program_frame.specs.declared.ending.Ending.{Ending}
use Rattle.tool_input.specs.declared.rejection.Rejection.{Rejection}
use Rattle.tool_input.specs.Call.{IsToolCall}
use Rattle.tool_input.specs.Interface.{HasTask}
use Rattle.bspl_tool.specs.Headline.{TrueWhereSaid}
use Rattle.bspl_tool.specs.declared.task.Task.{Task}
use Rattle.tool_input.specs.declared.status.Status.{Status}
use Rattle.tool_input.specs.declared.status.Status.TheVariants.{Usage, Refused}
use Rattle.tool_input.specs.Output.{Output}
use Rattle.tool_input.specs.Refusals.{Refuses}
use Rattle.tool_input.specs.Rejection.{rejection_line}
use Rattle.bspl_tool.specs.Interface.{tool_interface}
use Rattle.bspl_tool.specs.Request.{HasCommandLine, Requests}
use Rattle.bspl_tool.specs.Task.{task_rules}
use Rattle.bspl_tool.specs.Texts.{usage_text}

-- what a call writes claims only what is true of the protocol that it judges
abbrev pub CallsAreTrue : Type 0
CallsAreTrue = (args : List (List ℕ)) (t : Traffic) (ending : Ending Status)
    → IsToolCall tool_interface args t ending → TrueWhereSaid args t

-- the output and the status are these
abbrev pub IsOutput : List ℕ → Status → List ℕ → Status → Type 0
IsOutput out status out' status' = (out ≡ out') × (status ≡ status')

-- each command line requests a task
abbrev pub LinesRequestTasks : Type 0
LinesRequestTasks = (args : List (List ℕ)) → HasCommandLine args → HasTask tool_interface args

-- arguments that are no command line get the usage line alone
abbrev pub UsageIsAll : Type 0
UsageIsAll = (args : List (List ℕ)) (bytes out : List ℕ) (status : Status) → ¬ HasCommandLine args
    → Output tool_interface args bytes out status → IsOutput out status usage_text Usage

-- there is one reason at most to refuse them
abbrev pub OneRejection : Type 0
OneRejection = (args : List (List ℕ)) (bytes : List ℕ) (r s : Rejection)
    → Refuses tool_interface args bytes r → Refuses tool_interface args bytes s → r ≡ s

-- what is refused is not answered
abbrev pub RefusalIsAll : Type 0
RefusalIsAll = (args : List (List ℕ)) (bytes out : List ℕ) (r : Rejection) (status : Status)
    → Refuses tool_interface args bytes r → Output tool_interface args bytes out status
    → IsOutput out status (rejection_line r) Refused

-- a task that is determined has one output at most
abbrev pub OneAnswer : Type 0
OneAnswer = (args : List (List ℕ)) (bytes : List ℕ) (task : Task) (name out out' : List ℕ)
    (status status' : Status) → Requests args task name → (task_rules task).is_determined
    → Output tool_interface args bytes out status → Output tool_interface args bytes out' status'
    → IsOutput out status out' status'
