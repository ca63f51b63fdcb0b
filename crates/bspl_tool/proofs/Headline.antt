-- A line that claims something is written only of a protocol of which it is true.
use Rattle.std.proofs.Common.{◌≡◌, ◌++◌, inl, inr, ℕ, List, [], codes, length, take, Option, Some, None, refl, sym, ◌∙◌, subst, arith, append-nil}
use Rattle.std.specs.Prelude.{IfSome, IsTrue}
use Rattle.std.specs.Io.KnownBytes.{Appends}
use Rattle.std.proofs.lemmas.List.{append_cancel_left, take_all}
use Rattle.bspl_types.specs.Name.{is_name}
use Rattle.bspl_io.specs.Sink.{AppendsPrefix}
use Rattle.tool_input.specs.declared.rejection.Rejection.{Rejection}
use Rattle.bspl_tool.specs.declared.task.Task.{Task}
use Rattle.tool_input.specs.declared.status.Status.{Status}
use Rattle.bspl_types.specs.Limits.{input_limit}
use Rattle.bspl_io.specs.Traffic.{Traffic}
use Rattle.program_frame.specs.Call.{AreRemaining, WritesPrefix}
use Rattle.program_frame.specs.declared.ending.Ending.{Ending}
use Rattle.program_frame.specs.declared.ending.Ending.TheVariants.{Answered, ReadFault, WriteFault, NoMemory}
use Rattle.tool_input.specs.Call.{IsToolCall}
use Rattle.bspl_tool.specs.Laws.{CallsAreTrue}
use Rattle.bspl_tool.specs.Headline.{IsJudged, IsTrueOf, TrueWhereSaid}
use Rattle.tool_input.specs.Output.{DoesTask, Output, usage, refused, done}
use Rattle.tool_input.specs.Interface.{RequestsInput, task_bytes}
use Rattle.bspl_tool.specs.Interface.{tool_interface}
use Rattle.tool_input.specs.Parts.{protocol_text}
use Rattle.tool_input.specs.Rejection.{rejection_line}
use Rattle.bspl_tool.specs.Task.{task_rules}
use Rattle.tool_input.specs.Refusals.{Refuses, RefusesInput}
use Rattle.bspl_tool.proofs.ClaimsNothing.{ClaimsNothing, line_claims_nothing, says_no_message, says_nothing}
use Rattle.bspl_tool.proofs.Distinct.{never_at_once}
use Rattle.bspl_tool.proofs.NameBytes.{name_is_field}
use Rattle.bspl_tool.proofs.RejectedNames.{HasNames, requested_is_name, text_rejection_names}
use Rattle.bspl_tool.proofs.RejectionLines.{rejection_claims_nothing}
use Rattle.bspl_tool.proofs.TaskLaws.{laws_of}

-- the names in a refusal of an input are names
input_names : (task : Task) (name input : List ℕ) {r : Rejection} → IsTrue (is_name name) → RefusesInput (task_rules task) name input r → HasNames r
input_names task name input named (RefusesInput.no_part part lacks) = record { first = tt; second = tt }
input_names task name input named (RefusesInput.text part q r has reason is) = text_rejection_names name (protocol_text input) q r named reason is
input_names task name input named (RefusesInput.command part x r has judged reason) = (laws_of task).names x part r reason

-- so are those in each refusal
refused_names : (args : List (List ℕ)) (bytes : List ℕ) {r : Rejection} → Refuses tool_interface args bytes r → HasNames r
refused_names args bytes (Refuses.at_once task name r requested is) = absurd (never_at_once task r is)
refused_names args bytes (Refuses.too_long asks long) = record { first = tt; second = tt }
refused_names args bytes (Refuses.read task name r read refuses) = input_names task name (task_bytes tool_interface task bytes) (requested_is_name args task name read.requested) refuses

-- a prefix of a text that claims nothing
nothing_said : (args : List (List ℕ)) (remaining : Option (List ℕ)) (text : List ℕ) (n : ℕ) → ClaimsNothing text → IsTrueOf args remaining (take n text)
nothing_said args remaining text n nothing = record {
  claimed = λ claim says. absurd (says_nothing claim text n nothing says);
  messages = λ claim name named says. absurd (says_no_message claim name text n (nothing.messages name (name_is_field name named)) says);
}

-- a prefix of an answer
truly_said : (args : List (List ℕ)) (remaining : Option (List ℕ)) (bytes out : List ℕ) (status : Status) (n : ℕ) → AreRemaining remaining bytes → DoesTask tool_interface args bytes out status → IsTrueOf args remaining (take n out)
truly_said args remaining bytes out status n input made =
    let answered = made.answered in
    let judged : IsJudged args remaining answered.protocol = record { task = made.task; name = made.name; requested = made.read.requested; bytes = bytes; input = input; judged = answered.judged } in
    let honest = (laws_of made.task).honest answered.protocol answered.given out status n answered.answer in record {
      claimed = λ claim says. (answered.protocol, judged, honest.claimed claim says);
      messages = λ claim name named says. (answered.protocol, judged, honest.messages claim name named says);
    }

-- a prefix of an output
said_by_output : (args : List (List ℕ)) (remaining : Option (List ℕ)) (bytes out : List ℕ) (status : Status) (n : ℕ) → AreRemaining remaining bytes → Output tool_interface args bytes out status → IsTrueOf args remaining (take n out)
said_by_output args remaining bytes _ _ n input (usage none) =
    nothing_said args remaining _ n (line_claims_nothing (codes "usage: bspl COMMAND NAME [--brief] [--conflicts N] [--threads N]") refl refl)
said_by_output args remaining bytes _ _ n input (refused out r made) =
    subst (λ (text : List ℕ). IsTrueOf args remaining (take n text)) (sym made.text) (nothing_said args remaining (rejection_line r) n (rejection_claims_nothing r (refused_names args bytes made.reason)))
said_by_output args remaining bytes _ _ n input (done out status made) = truly_said args remaining bytes out status n input made

-- what was appended is a prefix of an output
true_after_prefix : (args : List (List ℕ)) (remaining remaining_after old new : Option (List ℕ)) (bytes out : List ℕ) (status : Status) → AreRemaining remaining bytes → Output tool_interface args bytes out status → AppendsPrefix old new out → TrueWhereSaid args (record { remaining = remaining; remaining_after = remaining_after; contents = old; contents_after = new })
true_after_prefix args remaining remaining_after None new bytes out status input output (n, appended) = tt
true_after_prefix args remaining remaining_after (Some before) None bytes out status input output (n, appended) = tt
true_after_prefix args remaining remaining_after (Some before) (Some after) bytes out status input output (n, appended) = λ written is.
    subst (IsTrueOf args remaining) (append_cancel_left before (take n out) written (sym appended ∙ is)) (said_by_output args remaining bytes out status n input output)

-- perhaps the whole of it
true_after_text : (args : List (List ℕ)) (remaining remaining_after old new : Option (List ℕ)) (bytes out : List ℕ) (status : Status) → AreRemaining remaining bytes → Output tool_interface args bytes out status → Appends old new out → TrueWhereSaid args (record { remaining = remaining; remaining_after = remaining_after; contents = old; contents_after = new })
true_after_text args remaining remaining_after old new bytes out status input output appended =
    true_after_prefix args remaining remaining_after old new bytes out status input output (length out, subst (Appends old new) (sym (take_all (length out) out (omega arith))) appended)

-- or nothing
true_after_nothing : (args : List (List ℕ)) (remaining remaining_after old new : Option (List ℕ)) → new ≡ old → TrueWhereSaid args (record { remaining = remaining; remaining_after = remaining_after; contents = old; contents_after = new })
true_after_nothing args remaining remaining_after None new same = tt
true_after_nothing args remaining remaining_after (Some before) new same = subst (λ after. IfSome after (λ bytes. (out : List ℕ) → bytes ≡ before ++ out → IsTrueOf args remaining out)) (sym same) (λ written is.
    subst (IsTrueOf args remaining) (append_cancel_left before [] written (append-nil before ∙ is)) (nothing_said args remaining (codes "\n") 0 (line_claims_nothing [] refl refl)))

-- what was written of an output
prefix_true : (args : List (List ℕ)) (t : Traffic) → WritesPrefix (RequestsInput tool_interface args) input_limit (Output tool_interface args) t → TrueWhereSaid args t
prefix_true args t written =
    let answer = written.answer in
    true_after_prefix args t.remaining t.remaining_after t.contents t.contents_after answer.bytes written.out written.status answer.input answer.right written.appended

-- so it is after each call
calls_true : (args : List (List ℕ)) (t : Traffic) (ending : Ending Status) → IsToolCall tool_interface args t ending → TrueWhereSaid args t
calls_true args t (Answered status) call =
    let written = call.written in
    let answer = written.answer in
    true_after_text args t.remaining t.remaining_after t.contents t.contents_after answer.bytes written.out status answer.input answer.right written.appended
calls_true args t ReadFault call = true_after_nothing args t.remaining t.remaining_after t.contents t.contents_after call.written.1
calls_true args t WriteFault call = prefix_true args t call.written
calls_true args t NoMemory call =
    elim call.written [
      | inl nothing ↦ true_after_nothing args t.remaining t.remaining_after t.contents t.contents_after nothing
      | inr some ↦ prefix_true args t some
    ]

pub true_law : CallsAreTrue
true_law args t ending call = calls_true args t ending call
