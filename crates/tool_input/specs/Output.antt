-- What a program writes for its arguments and the bytes of its input, and with which status.
use Rattle.std.specs.Prelude.{ℕ, List}
use Rattle.bspl_types.specs.declared.expanded.Expanded.{Expanded}
use Rattle.tool_input.specs.declared.rejection.Rejection.{Rejection}
use Rattle.tool_input.specs.declared.status.Status.{Status}
use Rattle.tool_input.specs.declared.status.Status.TheVariants.{Usage, Refused}
use Rattle.tool_input.specs.Input.{Declares}
use Rattle.tool_input.specs.Parts.{protocol_text}
use Rattle.tool_input.specs.Interface.{HasTask, Interface, task_bytes}
use Rattle.tool_input.specs.Need.{HasGiven}
use Rattle.tool_input.specs.Refusals.{IsReadFor, Refuses}
use Rattle.tool_input.specs.Rules.{CommandRules}

-- a right answer by these rules on the input: on the protocol that it declares for the name, with
-- what the command needs beside it
pub record AnswersInput (rules : CommandRules) (name input out : List ℕ) (status : Status)
    : Type 0 where
  pub given : List ℕ
  pub has_given : HasGiven rules.needs input given
  pub protocol : Expanded
  pub judged : Declares name (protocol_text input) protocol
  pub answer : rules.answers protocol given out status

-- the arguments request a task, and the output is a right answer to it on the bytes that it is done
-- on
pub record DoesTask {Task : Type 0} (i : Interface Task) (args : List (List ℕ))
    (bytes out : List ℕ) (status : Status) : Type 0 where
  pub task : Task
  pub name : List ℕ
  pub read : IsReadFor i args bytes task name
  pub answered : AnswersInput (i.rules task) name (task_bytes i task bytes) out status

-- the arguments request a task and are refused, and the output is how the task writes the refusal
pub record IsRefusedCall {Task : Type 0} (i : Interface Task) (args : List (List ℕ))
    (bytes out : List ℕ) (r : Rejection) : Type 0 where
  pub task : Task
  pub name : List ℕ
  pub requested : i.requests args task name
  pub reason : Refuses i args bytes r
  pub text : i.refusal_text task (task_bytes i task bytes) r out

-- the output and the status for the arguments and the bytes of the input
pub data Output {Task : Type 0} (i : Interface Task) (args : List (List ℕ)) (bytes : List ℕ)
    : List ℕ → Status → Type 0 where
  -- the arguments request no task
  usage : ¬ HasTask i args → Output i args bytes i.usage Usage
  -- there is a reason to refuse them or the input
  refused : (out : List ℕ) (r : Rejection) → IsRefusedCall i args bytes out r
      → Output i args bytes out Refused
  -- the task is done
  done : (out : List ℕ) (status : Status) → DoesTask i args bytes out status
      → Output i args bytes out status
