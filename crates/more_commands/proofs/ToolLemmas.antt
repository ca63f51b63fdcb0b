-- What is written for a command line is an output of the tool, and then words.
use Rattle.std.proofs.Common.{◌≡◌, ℕ, ◌≤◌, List, [], ◌∷◌, ◌++◌, drop, get_or, length, Option, None, Some, inl, inr, refl, sym, ap, subst, ◌∙◌}
use Rattle.std.proofs.lemmas.List.{append-nil}
use Rattle.std.proofs.lemmas.Option.{none-some}
use Rattle.answer_words.specs.declared.fault.Fault.{Fault}
use Rattle.answer_words.specs.Fault.{fault_of}
use Rattle.answer_words.specs.Refusal.{IsFaultText, IsRefusalText, IsTextFor, fault_text}
use Rattle.bspl_tool.specs.declared.task.Task.{Task}
use Rattle.bspl_tool.specs.declared.task.Task.TheVariants as tasks
use Rattle.bspl_tool.specs.Request.{Requests}
use Rattle.bspl_tool.specs.Interface.{tool_interface}
use Rattle.bspl_tool.specs.Task.{task_rules}
use Rattle.bspl_types.specs.declared.expanded.Expanded.{Expanded}
use Rattle.bspl_types.specs.Limits.{input_limit}
use Rattle.tool_input.specs.Interface.{HasTask, RequestsInput, task_bytes}
use Rattle.tool_input.specs.Output.{AnswersInput, DoesTask, IsRefusedCall, Output, done, refused, usage}
use Rattle.tool_input.specs.Refusals.{IsReadFor, Refuses, RefusesInput, command, no_part, text}
use Rattle.tool_input.specs.declared.rejection.Rejection.{Rejection}
use Rattle.tool_input.specs.declared.status.Status.{Status}
use Rattle.tool_input.specs.declared.status.Status.TheVariants.{Refused}
use Rattle.tool_input.specs.Input.{Declares}
use Rattle.tool_input.specs.Parts.{protocol_text}
use Rattle.tool_input.specs.Rejection.{rejection_line}
use Rattle.more_commands.specs.declared.word.CommandWord.TheVariants as word
use Rattle.more_commands.specs.ExplainAnswer.{AnswersInWords, explain_rules}
use Rattle.more_commands.specs.ExplainAsk.{NamesAsk}
use Rattle.more_commands.specs.Laws.{AddsWords, AreWordsAfter}
use Rattle.more_commands.specs.StatusWords.{status_words}
use Rattle.more_commands.specs.Interface.{IsMoreRefusal, more_interface}
use Rattle.more_commands.specs.Task.{AsksTask, Explain, MoreTask, RequestsMore, more_own_text, more_refused_at_once, more_rules, task_word, word_text}
use Rattle.more_commands.proofs.AskLemmas.{no_tool_ask}
use Rattle.more_commands.proofs.RequestLemmas.{is_explain, one_command}

-- the words of a fault come after the line of the refusal
fault_words : (input : List ℕ) (r : Rejection) (fault : Fault) (out : List ℕ) → IsFaultText input r fault out → (words : List ℕ) × (out ≡ rejection_line r ++ words)
fault_words input r fault out is = (fault_text input r fault is.detail, is.text)

-- so do those of a refusal
refusal_words : (input : List ℕ) (r : Rejection) (out : List ℕ) (fault : Option Fault) → IsTextFor input r fault out → (words : List ℕ) × (out ≡ rejection_line r ++ words)
refusal_words input r out None is = ([], is ∙ sym (append-nil (rejection_line r)))
refusal_words input r out (Some fault) is = fault_words input r fault out is

-- the words of an answer come after that of the tool
answer_words : (task : Task) (name input : List ℕ) (x : Expanded) (given out : List ℕ) (status : Status) → Declares name (protocol_text input) x → AnswersInWords task x given out status → (text : List ℕ) × ((words : List ℕ) × ((out ≡ text ++ words) × ((task_rules task).answers x given text status × AreWordsAfter task name input text status words)))
answer_words (tasks.Verify brief budget) name input x given out status declared is =
    (is.verdict_text, (is.words, (is.text, (record { verdicts = is.verdicts; answer = is.answer; ends = is.ends }, record { x = x; declared = declared; verdicts = is.verdicts; is_text = is.answer; are_words = is.are_words }))))
answer_words task name input x given out status declared is = (is.answer, (status_words task status, (is.text, (is.right, refl))))

-- a refusal of the task in words is one of the task
tool_refuses : (task : Task) (name input : List ℕ) (r : Rejection) → RefusesInput (explain_rules task) name input r → RefusesInput (task_rules task) name input r
tool_refuses task name input _ (no_part part lacks) = no_part part (record { is_needed = lacks.is_needed; missing = lacks.missing })
tool_refuses task name input _ (text given refusal r has refuses is) = text given refusal r has refuses is
tool_refuses task name input _ (command given x r has declared refuses) = command given x r has declared refuses

module _ (args rest : List (List ℕ)) (bytes : List ℕ) (about : args ≡ word_text word.Explain ∷ rest) (has : HasTask tool_interface rest) where
  -- what such arguments request is a task of the tool
  tool_task : (task : MoreTask) (name : List ℕ) → RequestsMore args task name → (found : Task) × (task ≡ Explain found) × Requests rest found name
  tool_task task name requested =
      let both : word_text (task_word task) ∷ requested.rest ≡ word_text word.Explain ∷ rest = sym requested.arguments ∙ about in
      let word : task_word task ≡ word.Explain = one_command (task_word task) word.Explain (ap (λ (list : List (List ℕ)). get_or list 0 []) both) in
      let after : requested.rest ≡ rest = ap (drop 1) both in
      elim (is_explain task word) [
        | inl found ↦ (
            let asks : Requests requested.rest found.0 name = subst (λ (t : MoreTask). AsksTask requested.rest t name) found.1 requested.asks in
            (found.0, found.1, subst (λ (list : List (List ℕ)). Requests list found.0 name) after asks)
            )
        | inr found ↦ (
            let asks : NamesAsk requested.rest found.0 name = subst (λ (t : MoreTask). AsksTask requested.rest t name) found.1 requested.asks in
            absurd (no_tool_ask rest has.0 has.1 found.0 name has.2 (subst (λ (list : List (List ℕ)). NamesAsk list found.0 name) after asks))
            )
      ]

  -- and a task of the tool is such a task
  more_requested : (task : Task) (name : List ℕ) → Requests rest task name → RequestsMore args (Explain task) name
  more_requested task name requested = record { rest = rest; arguments = about; asks = requested }

  -- they ask for the input exactly if they ask the tool for it
  tool_asks : RequestsInput more_interface args → RequestsInput tool_interface rest
  tool_asks asks =
      let found = tool_task asks.task asks.name asks.requested in
      record { task = found.0; name = asks.name; requested = found.2; accepted = refl; reads = subst (λ (t : MoreTask). more_own_text t ≡ None) found.1 asks.reads }

  more_asks : RequestsInput tool_interface rest → RequestsInput more_interface args
  more_asks asks = record { task = Explain asks.task; name = asks.name; requested = more_requested asks.task asks.name asks.requested; accepted = refl; reads = asks.reads }

  -- what is read is read by the tool
  tool_read : (task : Task) (name : List ℕ) → Requests rest task name → (RequestsInput more_interface args → length bytes ≤ input_limit) → IsReadFor tool_interface rest bytes task name
  tool_read task name requested short = record { requested = requested; accepted = refl; short = λ asks. short (more_asks asks) }

  -- the reason of a refusal is that of the tool
  tool_reason : (r : Rejection) → Refuses more_interface args bytes r → Refuses tool_interface rest bytes r
  tool_reason r (Refuses.at_once task name _ requested is) =
      let found = tool_task task name requested in
      let no : None ≡ Some r = subst (λ (t : MoreTask). more_refused_at_once t ≡ Some r) found.1 is in
      absurd (none-some r no)
  tool_reason _ (Refuses.too_long asks long) = Refuses.too_long (tool_asks asks) long
  tool_reason r (Refuses.read task name _ is_read refuses) =
      let found = tool_task task name is_read.requested in
      let same : RefusesInput (explain_rules found.0) name (task_bytes tool_interface found.0 bytes) r = subst (λ (t : MoreTask). RefusesInput (more_rules t) name (task_bytes more_interface t bytes) r) found.1 refuses in
      Refuses.read found.0 name r (tool_read found.0 name found.2 is_read.short) (tool_refuses found.0 name (task_bytes tool_interface found.0 bytes) r same)

  -- the words of a refusal come after its line
  refusal_added : (out : List ℕ) (r : Rejection) → IsRefusedCall more_interface args bytes out r → AddsWords rest bytes out Refused
  refusal_added out r is =
      let found = tool_task is.task is.name is.requested in
      let input = task_bytes tool_interface found.0 bytes in
      let said : IsRefusalText input r out = subst (λ (t : MoreTask). IsMoreRefusal t (task_bytes more_interface t bytes) r out) found.1 is.text in
      let words = refusal_words input r out (fault_of r.code) said in
      AddsWords.to_refusal (record {
        answer = rejection_line r;
        rejection = r;
        call = record { task = found.0; name = is.name; requested = found.2; reason = tool_reason r is.reason; text = refl };
        words = words.0;
        explain = subst (IsRefusalText input r) words.1 said;
        is_out = words.1;
      })

  -- and those of an answer after that of the tool
  answer_added : (out : List ℕ) (status : Status) → DoesTask more_interface args bytes out status → AddsWords rest bytes out status
  answer_added out status is =
      let found = tool_task is.task is.name is.read.requested in
      let answered : AnswersInput (explain_rules found.0) is.name (task_bytes tool_interface found.0 bytes) out status = subst (λ (t : MoreTask). AnswersInput (more_rules t) is.name (task_bytes more_interface t bytes) out status) found.1 is.answered in
      let words = answer_words found.0 is.name (task_bytes tool_interface found.0 bytes) answered.protocol answered.given out status answered.judged answered.answer in
      AddsWords.to_answer status (record {
        answer = words.0;
        does = record {
          task = found.0;
          name = is.name;
          read = tool_read found.0 is.name found.2 is.read.short;
          answered = record { given = answered.given; has_given = answered.has_given; protocol = answered.protocol; judged = answered.judged; answer = words.1.1.1.0 };
        };
        words = words.1.0;
        after = words.1.1.1.1;
        is_out = words.1.1.0;
      })

  -- what is written
  pub words_added : (out : List ℕ) (status : Status) → Output more_interface args bytes out status → AddsWords rest bytes out status
  words_added _ _ (usage none) = absurd (none (Explain has.0, has.1, more_requested has.0 has.1 has.2))
  words_added out _ (refused _ r is) = refusal_added out r is
  words_added out status (done _ _ is) = answer_added out status is
