-- Arguments request one task on one protocol.
use Rattle.std.proofs.Common.{◌≡◌, ◌↔◌, ℕ, ◌<◌, Bool, IsTrue, List, None, Some, refl, sym, ◌∙◌, subst}
use Rattle.command_line.specs.declared.line.CommandLine.{CommandLine}
use Rattle.command_line.specs.declared.line.Subject.{Subject}
use Rattle.command_line.specs.declared.line.Subject.TheVariants.{Protocol, Size}
use Rattle.command_line.specs.Line.{IsSameLine, IsSameSubject, OneLine}
use Rattle.bspl_tool.specs.declared.task.Task.{Task}
use Rattle.bspl_tool.specs.declared.task.Task.TheVariants as tasks
use Rattle.tool_input.specs.TaskLaws.{OneTask}
use Rattle.bspl_tool.specs.Interface.{tool_interface}
use Rattle.bspl_tool.specs.Request.{NamesSubject, IsThreaded, Requests, line_task, subject_task}
use Rattle.bspl_tool.specs.Task.{own_text, task_threads}

-- what is about the same has the same task
same_subject_task : (one other : Subject) (a b : CommandLine) → IsSameSubject one other → IsSameLine a b → subject_task one a ≡ subject_task other b
same_subject_task (Protocol one) (Protocol other) a b about same = cc
same_subject_task (Protocol one) (Size other) a b about same = absurd about
same_subject_task (Size one) (Protocol other) a b about same = absurd about
same_subject_task (Size one) (Size other) a b about same = cc

-- a command line is for one task
same_task : (one again : CommandLine) → IsSameLine one again → line_task one ≡ line_task again
same_task one again same = same_subject_task one.subject again.subject one again same.subject same

-- and about one protocol
same_name : (one other : Subject) (name again : List ℕ) → IsSameSubject one other → NamesSubject one name → NamesSubject other again → name ≡ again
same_name (Protocol one) (Protocol other) name again same about_one about_other = sym about_one ∙ same ∙ about_other
same_name (Protocol one) (Size other) name again same about_one about_other = absurd same
same_name (Size one) (Protocol other) name again same about_one about_other = absurd same
same_name (Size one) (Size other) name again same about_one about_other = sym about_one ∙ about_other

-- the arguments request one task
pub one_task : OneLine → (args : List (List ℕ)) (task other : Task) (name again : List ℕ) → Requests args task name → Requests args other again → task ≡ other
one_task one_line args task other name again requests requests_again =
    let same = same_task requests.line requests_again.line (one_line args requests.line requests_again.line requests.is_line requests_again.is_line) in
    let is : Some task ≡ Some other = sym requests.is_task ∙ same ∙ requests_again.is_task in
    cc

-- on the protocol of one name
pub one_name : OneLine → (args : List (List ℕ)) (task other : Task) (name again : List ℕ) → Requests args task name → Requests args other again → name ≡ again
one_name one_line args task other name again requests requests_again =
    same_name requests.line.subject requests_again.line.subject name again (one_line args requests.line requests_again.line requests.is_line requests_again.is_line).subject requests.about requests_again.about

-- so that the tool has one task for its arguments
pub one_request : OneLine → OneTask tool_interface
one_request line args task other name again requests requests_again =
    (one_task line args task other name again requests requests_again, one_name line args task other name again requests requests_again)

-- a task that generates nothing has no text of its own
pub no_own_text : (task : Task) → ((size conflicts threads : ℕ) → task ≡ tasks.Generate size conflicts threads → ⊥) → own_text task ≡ None
no_own_text (tasks.Generate size conflicts threads) other = absurd (other size conflicts threads refl)
no_own_text task other = refl

-- the arguments ask for threads if their one task does
pub threaded_request : OneLine → (args : List (List ℕ)) (task : Task) (name : List ℕ) (b : Bool) → Requests args task name → (IsTrue b ↔ (0 < task_threads task)) → (IsTrue b ↔ IsThreaded args)
threaded_request line args task name b requests is = (
  λ yes. record { task = task; name = name; requested = requests; some = is.0 yes },
  λ threaded. is.1 (subst (λ (t : Task). 0 < task_threads t) (one_task line args threaded.task task threaded.name name threaded.requested requests) threaded.some),
)
