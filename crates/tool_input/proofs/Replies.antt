-- What is replied to the arguments is an output.
use Rattle.std.proofs.Common.{◌≡◌, ℕ, ◌<◌, ◌≤◌, List, length, Option, None, Some, Result, Ok, Err, refl, sym, subst}
use Rattle.std.specs.Prelude.{IfOk}
use Rattle.list_base.specs.declared.memory.NoMemory.{NoMemory}
use Rattle.program_frame.specs.declared.reply.Reply.{Reply}
use Rattle.bspl_types.specs.Limits.{input_limit}
use Rattle.tool_input.specs.declared.rejection.Rejection.{Rejection}
use Rattle.tool_input.specs.declared.status.Status.{Status}
use Rattle.tool_input.specs.declared.status.Status.TheVariants.{Refused, Usage}
use Rattle.tool_input.specs.Rejection.{over_limit}
use Rattle.tool_input.specs.Interface.{HasTask, Interface, RequestsInput, task_bytes}
use Rattle.tool_input.specs.TaskLaws.{LongIsRefusedAlike}
use Rattle.tool_input.specs.Output.{AnswersInput, Output, usage, refused, done}
use Rattle.tool_input.specs.Refusals.{Refuses, RefusesInput}

-- a text and a status that are those of an output
as_output : {Task : Type 0} (i : Interface Task) (args : List (List ℕ)) (bytes text out : List ℕ) (status ends : Status) → text ≡ out → status ≡ ends → Output i args bytes out ends → Output i args bytes text status
as_output i args bytes text out status ends same same_status output = subst (λ (s : Status). Output i args bytes text s) (sym same_status) (subst (λ (t : List ℕ). Output i args bytes t ends) (sym same) output)

-- arguments that request no task get the usage line
pub usage_replied : {Task : Type 0} (i : Interface Task) (args : List (List ℕ)) (bytes text : List ℕ) (status : Status) → ¬ HasTask i args → text ≡ i.usage → status ≡ Usage → Output i args bytes text status
usage_replied i args bytes text status none same ends = as_output i args bytes text i.usage status Usage same ends (usage none)

-- a reason to refuse arguments that request the task gets the text of its refusal
refusal_replied : {Task : Type 0} (i : Interface Task) (args : List (List ℕ)) (task : Task) (name bytes text out : List ℕ) (status : Status) (r : Rejection) → i.requests args task name → Refuses i args bytes r → i.refusal_text task (task_bytes i task bytes) r out → text ≡ out → status ≡ Refused → Output i args bytes text status
refusal_replied i args task name bytes text out status r requests reason said same ends =
    as_output i args bytes text out status Refused same ends (refused out r (record { task = task; name = name; requested = requests; reason = reason; text = said }))

-- an input that is too long is refused
long_replied : {Task : Type 0} (i : Interface Task) (args : List (List ℕ)) (task : Task) (name bytes text : List ℕ) (status : Status) → i.requests args task name → RequestsInput i args → input_limit < length bytes → i.refusal_text task (task_bytes i task bytes) (over_limit input_limit) text → status ≡ Refused → Output i args bytes text status
long_replied i args task name bytes text status requests asks long said ends =
    refusal_replied i args task name bytes text text status (over_limit input_limit) requests (Refuses.too_long asks long) said refl ends

-- one reply refuses each of them
pub all_long_replied : {Task : Type 0} (i : Interface Task) (args : List (List ℕ)) (task : Task) (name input : List ℕ) (made : Result (Reply Status) NoMemory) → i.requests args task name → RequestsInput i args → LongIsRefusedAlike i → IfOk made (λ (reply : Reply Status). i.refusal_text task input (over_limit input_limit) reply.text) → IfOk made (λ (reply : Reply Status). reply.status ≡ Refused) → IfOk made (λ (reply : Reply Status). (bytes : List ℕ) → input_limit < length bytes → Output i args bytes reply.text reply.status)
all_long_replied i args task name input (Ok reply) requests asks alike said ends = λ bytes long.
    long_replied i args task name bytes reply.text reply.status requests asks long (alike task input (task_bytes i task bytes) reply.text said) ends
all_long_replied i args task name input (Err e) requests asks alike said ends = tt

-- an answer on the bytes that a task is done on
pub task_replied : {Task : Type 0} (i : Interface Task) (args : List (List ℕ)) (task : Task) (name bytes out : List ℕ) (status : Status) → i.requests args task name → i.refused_at_once task ≡ None → length bytes ≤ input_limit → AnswersInput (i.rules task) name (task_bytes i task bytes) out status → Output i args bytes out status
task_replied i args task name bytes out status requests accepted short answered =
    done out status (record { task = task; name = name; read = record { requested = requests; accepted = accepted; short = λ _. short }; answered = answered })

-- a refusal of them
pub task_refused : {Task : Type 0} (i : Interface Task) (args : List (List ℕ)) (task : Task) (name bytes text out : List ℕ) (status : Status) (r : Rejection) → i.requests args task name → i.refused_at_once task ≡ None → length bytes ≤ input_limit → RefusesInput (i.rules task) name (task_bytes i task bytes) r → i.refusal_text task (task_bytes i task bytes) r out → text ≡ out → status ≡ Refused → Output i args bytes text status
task_refused i args task name bytes text out status r requests accepted short reason said same ends =
    refusal_replied i args task name bytes text out status r requests (Refuses.read task name r (record { requested = requests; accepted = accepted; short = λ _. short }) reason) said same ends

-- a task that is refused at once
pub at_once_replied : {Task : Type 0} (i : Interface Task) (args : List (List ℕ)) (task : Task) (name bytes text out : List ℕ) (status : Status) (r : Rejection) → i.requests args task name → i.refused_at_once task ≡ Some r → i.refusal_text task (task_bytes i task bytes) r out → text ≡ out → status ≡ Refused → Output i args bytes text status
at_once_replied i args task name bytes text out status r requests is said same ends =
    refusal_replied i args task name bytes text out status r requests (Refuses.at_once task name r requests is) said same ends

-- a task without a reason to be refused at once is accepted
pub accepted : (found reason : Option Rejection) → found ≡ reason → ((r : Rejection) → found ≡ Some r → ⊥) → reason ≡ None
accepted found None same none = refl
accepted found (Some r) same none = absurd (none r same)
