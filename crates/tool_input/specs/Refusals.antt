-- Why an input is refused, in the order in which the reasons are judged.
use Rattle.std.specs.Prelude.{◌≡◌, ℕ, ◌<◌, ◌≤◌, List, length, None, Some}
use Rattle.bspl_types.specs.declared.expanded.Expanded.{Expanded}
use Rattle.bspl_types.specs.declared.refusals.Refusal.{Refusal}
use Rattle.bspl_types.specs.Limits.{input_limit}
use Rattle.tool_input.specs.declared.parts.Part.{Part}
use Rattle.tool_input.specs.declared.rejection.Rejection.{Rejection}
use Rattle.tool_input.specs.Input.{Declares}
use Rattle.tool_input.specs.Parts.{protocol_text}
use Rattle.tool_input.specs.Rejection.{lacks_part, over_limit, text_rejection}
use Rattle.tool_input.specs.TextRefusal.{RefusesText}
use Rattle.tool_input.specs.Interface.{Interface, RequestsInput, task_bytes}
use Rattle.tool_input.specs.Need.{HasGiven, LacksGiven}
use Rattle.tool_input.specs.Rules.{CommandRules}

-- why a command with these rules is not done on the protocol of that name in the input: the part
-- that it needs, the protocol text, the bytes that it is given
pub data RefusesInput (rules : CommandRules) (name input : List ℕ) : Rejection → Type 0 where
  -- the part that it needs is missing
  no_part : (part : Part) → LacksGiven rules.needs input part
      → RefusesInput rules name input (lacks_part part)
  -- the protocol text declares nothing for the name
  text : (given : List ℕ) (refusal : Refusal) (r : Rejection) → HasGiven rules.needs input given
      → RefusesText name (protocol_text input) refusal → text_rejection refusal ≡ Some r
      → RefusesInput rules name input r
  -- the protocol is admitted, and the command refuses it with what it is given
  command : (given : List ℕ) (x : Expanded) (r : Rejection) → HasGiven rules.needs input given
      → Declares name (protocol_text input) x → rules.refuses x given r
      → RefusesInput rules name input r

-- the arguments request the task, which is not refused at once, and an input that they ask for is
-- no longer than its limit
pub record IsReadFor {Task : Type 0} (i : Interface Task) (args : List (List ℕ)) (bytes : List ℕ)
    (task : Task) (name : List ℕ) : Type 0 where
  pub requested : i.requests args task name
  pub accepted : i.refused_at_once task ≡ None
  pub short : RequestsInput i args → length bytes ≤ input_limit

-- why the arguments are refused on these bytes of the input
pub data Refuses {Task : Type 0} (i : Interface Task) (args : List (List ℕ)) (bytes : List ℕ)
    : Rejection → Type 0 where
  -- the task that they request is refused at once, whatever the input is
  at_once : (task : Task) (name : List ℕ) (r : Rejection) → i.requests args task name
      → i.refused_at_once task ≡ Some r → Refuses i args bytes r
  -- the input that they ask for is too long
  too_long : RequestsInput i args → input_limit < length bytes
      → Refuses i args bytes (over_limit input_limit)
  -- the task is not done on the input, or on its own text
  read : (task : Task) (name : List ℕ) (r : Rejection) → IsReadFor i args bytes task name
      → RefusesInput (i.rules task) name (task_bytes i task bytes) r → Refuses i args bytes r
