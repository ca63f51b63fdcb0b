-- The commands by their words, and that arguments request one task on one name.
use Rattle.std.proofs.Common.{◌≡◌, ◌==◌, ℕ, List, [], ◌∷◌, Option, cond, drop, get_or, None, Some, inl, inr, ◌⊎◌, refl, sym, ap, subst, ◌∙◌}
use Rattle.std.proofs.lemmas.Option.{none-some}
use Rattle.ask_commands.specs.AskCommand.{IsAskRequest}
use Rattle.ask_commands.specs.declared.command.AskRequest.{AskRequest}
use Rattle.ask_commands.specs.AskTask.{AskTask, Check, Judge, Misput, Put, RequestsAsk}
use Rattle.ask_commands.specs.Laws.{OneAsk}
use Rattle.bspl_tool.specs.declared.task.Task.{Task}
use Rattle.bspl_tool.specs.Interface.{tool_interface}
use Rattle.bspl_tool.specs.Request.{Requests}
use Rattle.tool_input.specs.TaskLaws.{AtOnceIsRefusedAlike, LongIsRefusedAlike, OneTask}
use Rattle.more_commands.specs.declared.wording.TheConstants as wording
use Rattle.more_commands.specs.declared.word.CommandWord.{CommandWord}
use Rattle.more_commands.specs.declared.word.CommandWord.TheVariants as word
use Rattle.more_commands.specs.ExplainAsk.{NamesAsk}
use Rattle.more_commands.specs.FormulaArguments.{FormulaSubject}
use Rattle.more_commands.specs.Interface.{more_interface}
use Rattle.more_commands.specs.Task.{Ask, AsksTask, Explain, ExplainAsk, Formula, IsNameAlone, Lrat, MoreTask, Page, task_word, word_text}
use Rattle.more_commands.specs.inner.Question.{IsAskedAfterWord}
use Rattle.more_commands.proofs.AskLemmas.{no_tool_ask}
use Rattle.more_commands.proofs.FormulaLemmas.{OneReading, one_formula}

-- the command whose word begins with the letter
of_letter : ℕ → CommandWord
of_letter n = cond (n == 97) word.Ask (cond (n == 102) word.Formula (cond (n == 108) word.Lrat (cond (n == 112) word.Page word.Explain)))

-- the command of a word
of_text : List ℕ → CommandWord
of_text text = of_letter (get_or text 0 0)

of_its_text : (w : CommandWord) → of_text (word_text w) ≡ w
unfolding of_text of_letter
of_its_text word.Ask = refl
of_its_text word.Formula = refl
of_its_text word.Lrat = refl
of_its_text word.Page = refl
of_its_text word.Explain = refl

-- a word is that of one command
pub one_command : (w v : CommandWord) → word_text w ≡ word_text v → w ≡ v
one_command w v same = sym (of_its_text w) ∙ ap of_text same ∙ of_its_text v

-- a task with the word of `ask`
pub is_ask : (task : MoreTask) → task_word task ≡ word.Ask → (asked : AskTask) × (task ≡ Ask asked)
is_ask (Ask task) is = (task, refl)
is_ask (Formula subject) is = absurd (cc)
is_ask Lrat is = absurd (cc)
is_ask Page is = absurd (cc)
is_ask (Explain task) is = absurd (cc)
is_ask (ExplainAsk task) is = absurd (cc)

-- a task with the word of `formula`
pub is_formula : (task : MoreTask) → task_word task ≡ word.Formula → (subject : FormulaSubject) × (task ≡ Formula subject)
is_formula (Ask task) is = absurd (cc)
is_formula (Formula subject) is = (subject, refl)
is_formula Lrat is = absurd (cc)
is_formula Page is = absurd (cc)
is_formula (Explain task) is = absurd (cc)
is_formula (ExplainAsk task) is = absurd (cc)

-- a task with the word of `lrat`
pub is_lrat : (task : MoreTask) → task_word task ≡ word.Lrat → task ≡ Lrat
is_lrat (Ask task) is = absurd (cc)
is_lrat (Formula subject) is = absurd (cc)
is_lrat Lrat is = refl
is_lrat Page is = absurd (cc)
is_lrat (Explain task) is = absurd (cc)
is_lrat (ExplainAsk task) is = absurd (cc)

-- a task with the word of `page`
pub is_page : (task : MoreTask) → task_word task ≡ word.Page → task ≡ Page
is_page (Ask task) is = absurd (cc)
is_page (Formula subject) is = absurd (cc)
is_page Lrat is = absurd (cc)
is_page Page is = refl
is_page (Explain task) is = absurd (cc)
is_page (ExplainAsk task) is = absurd (cc)

-- a task with the word of `explain`
pub is_explain : (task : MoreTask) → task_word task ≡ word.Explain → ((asked : Task) × (task ≡ Explain asked)) ⊎ ((asked : AskTask) × (task ≡ ExplainAsk asked))
is_explain (Ask task) is = absurd (cc)
is_explain (Formula subject) is = absurd (cc)
is_explain Lrat is = absurd (cc)
is_explain Page is = absurd (cc)
is_explain (Explain task) is = inl (task, refl)
is_explain (ExplainAsk task) is = inr (task, refl)

-- arguments that ask nothing after the word of `ask` request no task by it
pub no_ask : (args : List (List ℕ)) → ((task : AskTask) (name : List ℕ) → ¬ RequestsAsk args task name) → (task : MoreTask) (name : List ℕ) → task_word task ≡ word.Ask → ¬ AsksTask args task name
no_ask args none task name same asks =
    let (found, is) = is_ask task same in none found name (subst (λ (t : MoreTask). AsksTask args t name) is asks)

-- nor do those that ask nothing of the tool, and nothing after the word `ask`, after the word of `explain`
pub no_explain : (args : List (List ℕ)) → ((task : Task) (name : List ℕ) → ¬ Requests args task name) → ((task : AskTask) (name : List ℕ) → ¬ NamesAsk args task name) → (task : MoreTask) (name : List ℕ) → task_word task ≡ word.Explain → ¬ AsksTask args task name
no_explain args tool ask (Ask task) name same asks = absurd (cc)
no_explain args tool ask (Formula subject) name same asks = absurd (cc)
no_explain args tool ask Lrat name same asks = absurd (cc)
no_explain args tool ask Page name same asks = absurd (cc)
no_explain args tool ask (Explain task) name same asks = tool task name asks
no_explain args tool ask (ExplainAsk task) name same asks = ask task name asks

-- the task and the name are the same
abbrev AreSame : MoreTask → MoreTask → List ℕ → List ℕ → Type 0
AreSame task other name again = (task ≡ other) × (name ≡ again)

-- two names that are the only argument
one_name : (args : List (List ℕ)) (name again : List ℕ) → IsNameAlone args name → IsNameAlone args again → name ≡ again
one_name args name again one other = ap (λ (list : List (List ℕ)). get_or list 0 []) (sym one.arguments ∙ other.arguments)

-- what is requested after the word `ask` is one task
one_asked : OneAsk → (args : List (List ℕ)) (task other : AskTask) (name again : List ℕ) → NamesAsk args task name → NamesAsk args other again → (task ≡ other) × (name ≡ again)
one_asked ask args task other name again one also =
    let rest : also.rest ≡ one.rest = ap (drop 1) (sym also.arguments ∙ one.arguments) in
    ask one.rest task other name again one.requested (subst (λ (list : List (List ℕ)). RequestsAsk list other again) rest also.requested)

-- arguments after one word ask for one task
same_task : OneTask tool_interface → OneAsk → OneReading → (args : List (List ℕ)) (task other : MoreTask) (name again : List ℕ) → task_word task ≡ task_word other → AsksTask args task name → AsksTask args other again → AreSame task other name again
same_task tool ask reading args (Ask task) other name again same asks also =
    let (found, is) = is_ask other (sym same) in
    let one = ask args task found name again asks (subst (λ (t : MoreTask). AsksTask args t again) is also) in
    (ap Ask one.0 ∙ sym is, one.1)
same_task tool ask reading args (Formula subject) other name again same asks also =
    let (found, is) = is_formula other (sym same) in
    let one = one_formula reading args name again subject found asks (subst (λ (t : MoreTask). AsksTask args t again) is also) in
    (ap Formula one.0 ∙ sym is, one.1)
same_task tool ask reading args Lrat other name again same asks also =
    let is = is_lrat other (sym same) in
    (sym is, one_name args name again asks (subst (λ (t : MoreTask). AsksTask args t again) is also))
same_task tool ask reading args Page other name again same asks also =
    let is = is_page other (sym same) in
    (sym is, one_name args name again asks (subst (λ (t : MoreTask). AsksTask args t again) is also))
same_task tool ask reading args (Explain task) other name again same asks also =
    elim (is_explain other (sym same)) [
      | inl found ↦ (
          let one = tool args task found.0 name again asks (subst (λ (t : MoreTask). AsksTask args t again) found.1 also) in
          (ap Explain one.0 ∙ sym found.1, one.1)
          )
      | inr found ↦ absurd (no_tool_ask args task name found.0 again asks (subst (λ (t : MoreTask). AsksTask args t again) found.1 also))
    ]
same_task tool ask reading args (ExplainAsk task) other name again same asks also =
    elim (is_explain other (sym same)) [
      | inl found ↦ absurd (no_tool_ask args found.0 again task name (subst (λ (t : MoreTask). AsksTask args t again) found.1 also) asks)
      | inr found ↦ (
          let one = one_asked ask args task found.0 name again asks (subst (λ (t : MoreTask). AsksTask args t again) found.1 also) in
          (ap ExplainAsk one.0 ∙ sym found.1, one.1)
          )
    ]

-- arguments request one task on one name
pub one_task : OneTask tool_interface → OneAsk → OneReading → OneTask more_interface
one_task tool ask reading args task other name again one also =
    let both = sym one.arguments ∙ also.arguments in
    let word : task_word task ≡ task_word other = one_command (task_word task) (task_word other) (ap (λ (list : List (List ℕ)). get_or list 0 []) both) in
    let rest : one.rest ≡ also.rest = ap (drop 1) both in
    same_task tool ask reading also.rest task other name again word (subst (λ (list : List (List ℕ)). AsksTask list task name) rest one.asks) also.asks

-- the words for an input that is too long say nothing of its bytes
pub long_is_refused_alike : LongIsRefusedAlike more_interface
long_is_refused_alike (Ask task) input other out is = is
long_is_refused_alike (Formula subject) input other out is = is
long_is_refused_alike Lrat input other out is = is
long_is_refused_alike Page input other out is = is
long_is_refused_alike (Explain task) input other out is = record { detail = is.detail; is_detail = is.is_detail; text = is.text }
long_is_refused_alike (ExplainAsk (Put phrase options)) input other out is = record { detail = is.detail; is_detail = is.is_detail; text = is.text }
long_is_refused_alike (ExplainAsk (Misput misput)) input other out is = is
long_is_refused_alike (ExplainAsk Check) input other out is = record { detail = is.detail; is_detail = is.is_detail; text = is.text }
long_is_refused_alike (ExplainAsk (Judge options)) input other out is = record { detail = is.detail; is_detail = is.is_detail; text = is.text }

-- so do those for a text that is no question
pub at_once_is_refused_alike : AtOnceIsRefusedAlike more_interface
at_once_is_refused_alike (Ask task) r input other out at_once is = is
at_once_is_refused_alike (Formula subject) r input other out at_once is = is
at_once_is_refused_alike Lrat r input other out at_once is = is
at_once_is_refused_alike Page r input other out at_once is = is
at_once_is_refused_alike (Explain task) r input other out at_once is = absurd (let no : None ≡ Some r = at_once in none-some r no)
at_once_is_refused_alike (ExplainAsk (Put phrase options)) r input other out at_once is = absurd (let no : None ≡ Some r = at_once in none-some r no)
at_once_is_refused_alike (ExplainAsk (Misput misput)) r input other out at_once is = is
at_once_is_refused_alike (ExplainAsk Check) r input other out at_once is = absurd (let no : None ≡ Some r = at_once in none-some r no)
at_once_is_refused_alike (ExplainAsk (Judge options)) r input other out at_once is = absurd (let no : None ≡ Some r = at_once in none-some r no)

-- what is requested after the word `ask`, or nothing
pub asked_after : (args rest : List (List ℕ)) (found : Option AskRequest) → args ≡ wording.ASK.now ∷ rest → IsAskRequest rest found → IsAskedAfterWord args found
asked_after args rest None same none = λ task name asks. none task name (subst (λ (list : List (List ℕ)). RequestsAsk list task name) (ap (drop 1) (sym asks.arguments ∙ same)) asks.requested)
asked_after args rest (Some request) same is = record { rest = rest; arguments = same; requested = is }
