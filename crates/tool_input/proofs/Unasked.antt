-- What is answered to arguments that ask for no input is right for each input.
use Rattle.std.proofs.Common.{◌≡◌, ℕ, List, None, Some, refl, subst}
use Rattle.std.specs.Prelude.{unwrap_or}
use Rattle.tool_input.specs.declared.rejection.Rejection.{Rejection}
use Rattle.tool_input.specs.declared.status.Status.{Status}
use Rattle.tool_input.specs.Interface.{Interface, RequestsInput, task_bytes}
use Rattle.tool_input.specs.Output.{AnswersInput, Output, usage, refused, done}
use Rattle.tool_input.specs.Refusals.{Refuses, RefusesInput}
use Rattle.tool_input.specs.TaskLaws.{AtOnceIsRefusedAlike, OneTask}

-- a task with a text of its own is done on that text, whatever the input is
same_bytes : {Task : Type 0} (i : Interface Task) (task : Task) → ¬ (i.own_text task ≡ None) → (bytes other : List ℕ) → task_bytes i task bytes ≡ task_bytes i task other
same_bytes i task own bytes other =
    (elim (i.own_text task) as (λ o. i.own_text task ≡ o → unwrap_or o bytes ≡ unwrap_or o other) [
      | None ↦ λ is. absurd (own is)
      | Some text ↦ λ is. refl
    ]) refl

-- so is each task of arguments that ask for no input, unless it is refused at once
unasked_bytes : {Task : Type 0} (i : Interface Task) (args : List (List ℕ)) → ¬ RequestsInput i args → (task : Task) (name : List ℕ) → i.requests args task name → i.refused_at_once task ≡ None → (bytes other : List ℕ) → task_bytes i task bytes ≡ task_bytes i task other
unasked_bytes i args none task name requested accepted bytes other =
    same_bytes i task (λ reads. none (record { task = task; name = name; requested = requested; accepted = accepted; reads = reads })) bytes other

-- a refusal of such arguments
unasked_refusal : {Task : Type 0} (i : Interface Task) (args : List (List ℕ)) → ¬ RequestsInput i args → (bytes other : List ℕ) {r : Rejection} → Refuses i args bytes r → Refuses i args other r
unasked_refusal i args none bytes other (Refuses.too_long asks long) = absurd (none asks)
unasked_refusal i args none bytes other (Refuses.at_once task name r requested is) = Refuses.at_once task name r requested is
unasked_refusal i args none bytes other (Refuses.read task name r read reason) =
    Refuses.read task name r (record { requested = read.requested; accepted = read.accepted; short = λ asks. absurd (none asks) }) (subst (λ (b : List ℕ). RefusesInput (i.rules task) name b r) (unasked_bytes i args none task name read.requested read.accepted bytes other) reason)

-- how it is written
unasked_text : {Task : Type 0} (i : Interface Task) → OneTask i → AtOnceIsRefusedAlike i → (args : List (List ℕ)) → ¬ RequestsInput i args → (task : Task) (name : List ℕ) → i.requests args task name → (bytes other out : List ℕ) {r : Rejection} → Refuses i args bytes r → i.refusal_text task (task_bytes i task bytes) r out → i.refusal_text task (task_bytes i task other) r out
unasked_text i once alike args none task name requested bytes other out (Refuses.too_long asks long) said = absurd (none asks)
unasked_text {Task} i once alike args none task name requested bytes other out (Refuses.at_once other_task again r requested_too is) said =
    alike task r (task_bytes i task bytes) (task_bytes i task other) out (subst (λ (t : Task). i.refused_at_once t ≡ Some r) (once args other_task task again name requested_too requested).0 is) said
unasked_text {Task} i once alike args none task name requested bytes other out (Refuses.read other_task again r read reason) said =
    let accepted = subst (λ (t : Task). i.refused_at_once t ≡ None) (once args other_task task again name read.requested requested).0 read.accepted in
    subst (λ (b : List ℕ). i.refusal_text task b r out) (unasked_bytes i args none task name requested accepted bytes other) said

-- an output
pub unasked_output : {Task : Type 0} (i : Interface Task) → OneTask i → AtOnceIsRefusedAlike i → (args : List (List ℕ)) → ¬ RequestsInput i args → (bytes other out : List ℕ) (status : Status) → Output i args bytes out status → Output i args other out status
unasked_output i once alike args none bytes other _ _ (usage no_task) = usage no_task
unasked_output i once alike args none bytes other _ _ (refused out r made) = refused out r (record {
  task = made.task;
  name = made.name;
  requested = made.requested;
  reason = unasked_refusal i args none bytes other made.reason;
  text = unasked_text i once alike args none made.task made.name made.requested bytes other out made.reason made.text;
})
unasked_output i once alike args none bytes other _ _ (done out status made) = done out status (record {
  task = made.task;
  name = made.name;
  read = record { requested = made.read.requested; accepted = made.read.accepted; short = λ asks. absurd (none asks) };
  answered = subst (λ (b : List ℕ). AnswersInput (i.rules made.task) made.name b out status) (unasked_bytes i args none made.task made.name made.read.requested made.read.accepted bytes other) made.answered;
})
