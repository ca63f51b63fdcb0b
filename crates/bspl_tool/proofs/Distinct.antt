-- Usage, a refusal and an answer exclude each other, and there is one refusal at most.
use Rattle.std.proofs.Common.{◌≡◌, ℕ, ◌<◌, List, [], length, Option, None, Some, refl, sym, ◌∙◌, ap, subst, arith}
use Rattle.std.proofs.lemmas.Option.{none-some}
use Rattle.bspl_types.specs.declared.expanded.Expanded.{Expanded}
use Rattle.bspl_types.specs.declared.refusals.Refusal.{Refusal}
use Rattle.command_line.specs.Line.{OneLine}
use Rattle.tool_input.specs.declared.parts.Part.{Part}
use Rattle.tool_input.specs.declared.rejection.Rejection.{Rejection}
use Rattle.bspl_tool.specs.declared.task.Task.{Task}
use Rattle.tool_input.specs.declared.status.Status.{Status}
use Rattle.tool_input.specs.declared.status.Status.TheVariants.{Usage, Refused}
use Rattle.bspl_types.specs.Limits.{input_limit}
use Rattle.bspl_tool.specs.Laws.{IsOutput, OneAnswer, OneRejection, RefusalIsAll, UsageIsAll}
use Rattle.tool_input.specs.Output.{AnswersInput, DoesTask, Output, usage, refused, done}
use Rattle.tool_input.specs.Input.{Declares}
use Rattle.tool_input.specs.declared.need.Need.{Need}
use Rattle.tool_input.specs.declared.need.Need.TheVariants as need
use Rattle.tool_input.specs.Need.{HasGiven, LacksGiven}
use Rattle.tool_input.specs.Refusals.{IsReadFor, Refuses, RefusesInput}
use Rattle.tool_input.specs.Laws.{DeclaredIsNotRefused, OneDeclaration, OneTextRefusal}
use Rattle.tool_input.specs.TextRefusal.{RefusesText}
use Rattle.tool_input.specs.Rejection.{lacks_part, rejection_line, text_rejection}
use Rattle.tool_input.specs.Interface.{HasTask, RequestsInput, task_bytes}
use Rattle.bspl_tool.specs.Interface.{tool_interface}
use Rattle.bspl_tool.specs.Request.{HasCommandLine, Requests}
use Rattle.tool_input.specs.Parts.{protocol_text}
use Rattle.bspl_tool.specs.Task.{task_rules}
use Rattle.bspl_tool.specs.Texts.{usage_text}
use Rattle.bspl_tool.proofs.OneRequest.{one_name, one_task}
use Rattle.bspl_tool.proofs.TaskLaws.{OneEvidence, laws_of}

-- a protocol text is judged once
pub record OneReading : Type 0 where
  pub declaration : OneDeclaration
  pub refusal : OneTextRefusal
  pub exclusive : DeclaredIsNotRefused

-- the command line, the reading, and what is read of a part have one answer each
pub record OneEach : Type 0 where
  pub line : OneLine
  pub reading : OneReading
  pub evidence : OneEvidence

-- the bytes of a part that was found
part_bytes : Option (Part × List ℕ) → List ℕ
part_bytes None = []
part_bytes (Some found) = found.1

-- a part has one text
one_part : (needs : Need) (input one other : List ℕ) → HasGiven needs input one → HasGiven needs input other → one ≡ other
unfolding part_bytes
one_part need.Nothing input one other is again = is ∙ sym again
one_part (need.Part part) input one other is again = ap part_bytes (sym is ∙ again)
one_part need.Input input one other is again = is ∙ sym again

-- a part that is there is not missing
part_or_missing : (task : Task) (input bytes : List ℕ) (part : Part) → HasGiven (task_rules task).needs input bytes → LacksGiven (task_rules task).needs input part → ⊥
part_or_missing task input bytes part has lacks = lacks.missing bytes (subst (λ (needs : Need). HasGiven needs input bytes) lacks.is_needed has)

-- an input has one judged protocol for a name
judged_once : OneReading → (name input : List ℕ) (x y : Expanded) → Declares name (protocol_text input) x → Declares name (protocol_text input) y → x ≡ y
judged_once law name input x y one other = law.declaration name (protocol_text input) x y one other

-- what is judged is not refused for its text
judged_or_refused : OneReading → (name input : List ℕ) (x : Expanded) (q : Refusal) → Declares name (protocol_text input) x → RefusesText name (protocol_text input) q → ⊥
judged_or_refused law name input x q judged reason = law.exclusive name (protocol_text input) x q judged reason

-- two rejections of one refusal are one
same_rejection : (q p : Refusal) (r s : Rejection) → q ≡ p → text_rejection q ≡ Some r → text_rejection p ≡ Some s → r ≡ s
same_rejection q p r s same one other = let is : Some r ≡ Some s = sym one ∙ ap text_rejection same ∙ other in cc

-- two parts that are needed are one
same_part : (task : Task) (input : List ℕ) (p q : Part) → LacksGiven (task_rules task).needs input p → LacksGiven (task_rules task).needs input q → p ≡ q
same_part task input p q one other = let is : need.Part p ≡ need.Part q = sym one.is_needed ∙ other.is_needed in cc

-- a command's refusals of an input are one
same_part_refusal : OneEach → (task : Task) (name input : List ℕ) (part bytes : List ℕ) (x y : Expanded) (r s : Rejection) → HasGiven (task_rules task).needs input part → HasGiven (task_rules task).needs input bytes → Declares name (protocol_text input) x → Declares name (protocol_text input) y → (task_rules task).refuses x part r → (task_rules task).refuses y bytes s → r ≡ s
same_part_refusal law task name input part bytes x y r s has has_too judged judged_too one other =
    let same = judged_once law.reading name input y x judged_too judged in
    let bytes_same = one_part (task_rules task).needs input bytes part has_too has in
    (laws_of task).one_refusal law.evidence x part r s judged.admitted one (subst (λ z. (task_rules task).refuses z part s) same (subst (λ b. (task_rules task).refuses y b s) bytes_same other))

-- an input has one rejection
one_input_rejection : OneEach → (task : Task) (name input : List ℕ) {r s : Rejection} → RefusesInput (task_rules task) name input r → RefusesInput (task_rules task) name input s → r ≡ s
one_input_rejection law task name input (RefusesInput.no_part p lacks) (RefusesInput.no_part q lacks_too) = ap lacks_part (same_part task input p q lacks lacks_too)
one_input_rejection law task name input (RefusesInput.no_part p lacks) (RefusesInput.text bytes q s has reason is) = absurd (part_or_missing task input bytes p has lacks)
one_input_rejection law task name input (RefusesInput.no_part p lacks) (RefusesInput.command bytes y s has judged reason) = absurd (part_or_missing task input bytes p has lacks)
one_input_rejection law task name input (RefusesInput.text part q r has reason is) (RefusesInput.no_part p lacks) = absurd (part_or_missing task input part p has lacks)
one_input_rejection law task name input (RefusesInput.text part q r has reason is) (RefusesInput.text bytes p s has_too reason_too is_too) =
    same_rejection q p r s (law.reading.refusal name (protocol_text input) q p reason reason_too) is is_too
one_input_rejection law task name input (RefusesInput.text part q r has reason is) (RefusesInput.command bytes y s has_too judged other) = absurd (judged_or_refused law.reading name input y q judged reason)
one_input_rejection law task name input (RefusesInput.command part x r has judged reason) (RefusesInput.no_part p lacks) = absurd (part_or_missing task input part p has lacks)
one_input_rejection law task name input (RefusesInput.command part x r has judged reason) (RefusesInput.text bytes q s has_too other is) = absurd (judged_or_refused law.reading name input x q judged other)
one_input_rejection law task name input (RefusesInput.command part x r has judged reason) (RefusesInput.command bytes y s has_too judged_too reason_too) =
    same_part_refusal law task name input part bytes x y r s has has_too judged judged_too reason reason_too

-- what holds of the task and the name that the arguments request holds of those requested before
as_requested : OneLine → (P : Task → List ℕ → Type 0) (args : List (List ℕ)) (task other : Task) (name again : List ℕ) → Requests args task name → Requests args other again → P other again → P task name
as_requested line P args task other name again requests requests_too holds =
    subst (λ t. P t name) (one_task line args other task again name requests_too requests)
    (subst (λ n. P other n) (one_name line args other task again name requests_too requests) holds)

-- an input is not too long and read
long_or_read : (args : List (List ℕ)) (bytes : List ℕ) (task : Task) (name : List ℕ) → RequestsInput tool_interface args → input_limit < length bytes → IsReadFor tool_interface args bytes task name → ⊥
long_or_read args bytes task name asks long read = let short = read.short asks in omega arith

-- no task is refused at once
pub never_at_once : (task : Task) (r : Rejection) → tool_interface.refused_at_once task ≡ Some r → ⊥
never_at_once task r is = let no : None ≡ Some r = is in none-some r no

-- arguments and bytes have one rejection
one_rejection : OneEach → (args : List (List ℕ)) (bytes : List ℕ) {r s : Rejection} → Refuses tool_interface args bytes r → Refuses tool_interface args bytes s → r ≡ s
one_rejection law args bytes (Refuses.at_once task name r requested is) (Refuses.at_once other again s requested_too is_too) = absurd (never_at_once task r is)
one_rejection law args bytes (Refuses.at_once task name r requested is) (Refuses.too_long asks long) = absurd (never_at_once task r is)
one_rejection law args bytes (Refuses.at_once task name r requested is) (Refuses.read other again s read reason) = absurd (never_at_once task r is)
one_rejection law args bytes (Refuses.too_long asks long) (Refuses.at_once task name r requested is) = absurd (never_at_once task r is)
one_rejection law args bytes (Refuses.read other again s read reason) (Refuses.at_once task name r requested is) = absurd (never_at_once task r is)
one_rejection law args bytes (Refuses.too_long asks long) (Refuses.too_long asks_too long_too) = refl
one_rejection law args bytes (Refuses.too_long asks long) (Refuses.read other again s read reason) = absurd (long_or_read args bytes other again asks long read)
one_rejection law args bytes (Refuses.read task name r read reason) (Refuses.too_long asks long) = absurd (long_or_read args bytes task name asks long read)
one_rejection law args bytes (Refuses.read task name r read reason) (Refuses.read other again s read_too reason_too) =
    one_input_rejection law task name (task_bytes tool_interface task bytes) reason (as_requested law.line (λ t n. RefusesInput (task_rules t) n (task_bytes tool_interface t bytes) s) args task other name again read.requested read_too.requested reason_too)

-- an input on which the task is done is not refused
answered_or_refused : OneEach → (task : Task) (name input out : List ℕ) (status : Status) {r : Rejection} → AnswersInput (task_rules task) name input out status → RefusesInput (task_rules task) name input r → ⊥
answered_or_refused law task name input out status answered (RefusesInput.no_part p lacks) = part_or_missing task input answered.given p answered.has_given lacks
answered_or_refused law task name input out status answered (RefusesInput.text bytes q s has reason is) = judged_or_refused law.reading name input answered.protocol q answered.judged reason
answered_or_refused law task name input out status answered (RefusesInput.command bytes y s has judged reason) =
    let same = judged_once law.reading name input y answered.protocol judged answered.judged in
    let bytes_same = one_part (task_rules task).needs input bytes answered.given has answered.has_given in
    (laws_of task).distinct law.evidence answered.protocol answered.given out status s answered.judged.admitted answered.answer (subst (λ z. (task_rules task).refuses z answered.given s) same (subst (λ b. (task_rules task).refuses y b s) bytes_same reason))

-- nor are the arguments
done_or_refused : OneEach → (args : List (List ℕ)) (bytes out : List ℕ) (status : Status) {r : Rejection} → DoesTask tool_interface args bytes out status → Refuses tool_interface args bytes r → ⊥
done_or_refused law args bytes out status made (Refuses.at_once task name r requested is) = never_at_once task r is
done_or_refused law args bytes out status made (Refuses.too_long asks long) = long_or_read args bytes made.task made.name asks long made.read
done_or_refused law args bytes out status made (Refuses.read task name r read reason) =
    answered_or_refused law made.task made.name (task_bytes tool_interface made.task bytes) out status made.answered (as_requested law.line (λ t n. RefusesInput (task_rules t) n (task_bytes tool_interface t bytes) r) args made.task task made.name name made.read.requested read.requested reason)

-- what is refused is a command line
refused_line : (args : List (List ℕ)) (bytes : List ℕ) {r : Rejection} → Refuses tool_interface args bytes r → HasCommandLine args
refused_line args bytes (Refuses.at_once task name r requested is) = (requested.line, requested.is_line)
refused_line args bytes (Refuses.too_long asks long) = (asks.requested.line, asks.requested.is_line)
refused_line args bytes (Refuses.read task name r read reason) = (read.requested.line, read.requested.is_line)

-- and requests a task
refused_task : (args : List (List ℕ)) (bytes : List ℕ) {r : Rejection} → Refuses tool_interface args bytes r → HasTask tool_interface args
refused_task args bytes (Refuses.at_once task name r requested is) = (task, name, requested)
refused_task args bytes (Refuses.too_long asks long) = (asks.task, asks.name, asks.requested)
refused_task args bytes (Refuses.read task name r read reason) = (task, name, read.requested)

-- arguments that are no command line get the usage line alone
usage_is_all : (args : List (List ℕ)) (bytes out : List ℕ) (status : Status) → ¬ HasCommandLine args → Output tool_interface args bytes out status → IsOutput out status usage_text Usage
usage_is_all args bytes _ _ none (usage is) = (refl, refl)
usage_is_all args bytes _ _ none (refused out r made) = absurd (none (refused_line args bytes made.reason))
usage_is_all args bytes _ _ none (done out status made) = absurd (none (made.read.requested.line, made.read.requested.is_line))

-- what is refused is not answered
refusal_is_all : OneEach → (args : List (List ℕ)) (bytes out : List ℕ) (r : Rejection) (status : Status) → Refuses tool_interface args bytes r → Output tool_interface args bytes out status → IsOutput out status (rejection_line r) Refused
refusal_is_all law args bytes _ r _ refuses (usage none) = absurd (none (refused_task args bytes refuses))
refusal_is_all law args bytes _ r _ refuses (refused out s made) = (made.text ∙ ap rejection_line (one_rejection law args bytes made.reason refuses), refl)
refusal_is_all law args bytes _ r _ refuses (done out status made) = absurd (done_or_refused law args bytes out status made refuses)

-- the laws of outputs
pub usage_law : UsageIsAll
usage_law args bytes out status none output = usage_is_all args bytes out status none output

pub rejection_law : OneEach → OneRejection
rejection_law law args bytes r s one other = one_rejection law args bytes one other

pub refusal_law : OneEach → RefusalIsAll
refusal_law law args bytes out r status refuses output = refusal_is_all law args bytes out r status refuses output

-- two answers to a determined task are one
same_answer : OneEach → (task : Task) (name input out out' : List ℕ) (status status' : Status) → (task_rules task).is_determined → AnswersInput (task_rules task) name input out status → AnswersInput (task_rules task) name input out' status' → IsOutput out status out' status'
same_answer law task name input out out' status status' determined one other =
    let same = judged_once law.reading name input other.protocol one.protocol other.judged one.judged in
    let bytes_same = one_part (task_rules task).needs input other.given one.given other.has_given one.has_given in
    (laws_of task).one_answer law.evidence one.protocol one.given out out' status status' one.judged.admitted determined one.answer
    (subst (λ z. (task_rules task).answers z one.given out' status') same (subst (λ b. (task_rules task).answers other.protocol b out' status') bytes_same other.answer))

-- two outputs of arguments that request a determined task are one
one_output : OneEach → (args : List (List ℕ)) (bytes : List ℕ) (task : Task) (name out out' : List ℕ) (status status' : Status) → Requests args task name → (task_rules task).is_determined → Output tool_interface args bytes out status → Output tool_interface args bytes out' status' → IsOutput out status out' status'
one_output law args bytes task name _ out' _ status' requests determined (usage none) other = absurd (none (task, name, requests))
one_output law args bytes task name _ out' _ status' requests determined (refused out r made) other =
    let is = refusal_is_all law args bytes out' r status' made.reason other in
    (made.text ∙ sym is.0, sym is.1)
one_output law args bytes task name _ _ _ _ requests determined (done out status made) (usage none) = absurd (none (task, name, requests))
one_output law args bytes task name _ _ _ _ requests determined (done out status made) (refused out' r refusal) = absurd (done_or_refused law args bytes out status made refusal.reason)
one_output law args bytes task name _ _ _ _ requests determined (done out status made) (done out' status' made_too) =
    same_answer law task name (task_bytes tool_interface task bytes) out out' status status' determined
    (as_requested law.line (λ t n. AnswersInput (task_rules t) n (task_bytes tool_interface t bytes) out status) args task made.task name made.name requests made.read.requested made.answered)
    (as_requested law.line (λ t n. AnswersInput (task_rules t) n (task_bytes tool_interface t bytes) out' status') args task made_too.task name made_too.name requests made_too.read.requested made_too.answered)

pub answer_law : OneEach → OneAnswer
answer_law law args bytes task name out out' status status' requests determined one other =
    one_output law args bytes task name out out' status status' requests determined one other
