-- Arguments request one task at most.
use Rattle.std.proofs.Common.{◌≡◌, ℕ, true, false, List, [], ◌∷◌, get_or, Option, None, Some, refl, sym, ap, subst, ◌∙◌, arith}
use Rattle.std.specs.Prelude.{if◌then◌else◌}
use Rattle.std.proofs.lemmas.Option.{none-some}
use Rattle.question_text.specs.Laws.{HasOneFault, HasOneTree, ReadTextHasNoFault, IsFaultOf}
use Rattle.question_text.specs.Tree.{Phrase}
use Rattle.tool_input.specs.declared.rejection.Rejection.{Rejection}
use Rattle.ask_commands.specs.declared.arguments.Flags.{Flags}
use Rattle.ask_commands.specs.declared.options.AskOptions.{AskOptions}
use Rattle.ask_commands.specs.declared.command.AskRequest.{AskRequest}
use Rattle.ask_commands.specs.AskCommand.{IsAskRequest}
use Rattle.ask_commands.specs.inner.Request.{IsRequestByKind}
use Rattle.ask_commands.specs.AskArguments.{AreByKind, ByKind, IsNameOnly}
use Rattle.ask_commands.specs.AskTask.{AskTask, AsksByKind, RequestsQuestion, AsksRules, Check, IsMisputText, IsTextOfPhrase, Judge, Misput, Put, PutsText, RequestsAsk, question_rejection}
use Rattle.ask_commands.proofs.ArgumentLemmas.{one_budget, one_sorting}

-- which of the three forms the flags give, and which one a task has
abbrev pub form_of : Flags → ℕ
form_of flags = if flags.check then 1 else if flags.all then 2 else 0

abbrev pub task_form : AskTask → ℕ
task_form (Put phrase options) = 0
task_form (Misput r) = 0
task_form Check = 1
task_form (Judge options) = 2

-- they are the same
same_form : (a : ByKind) (task : AskTask) (name : List ℕ) → AsksByKind a task name → form_of a.flags ≡ task_form task
same_form a (Put phrase options) name asks = ap form_of asks.flags
same_form a (Misput r) name asks = ap form_of asks.flags
same_form a Check name asks = ap form_of asks.flags
same_form a (Judge options) name asks = ap form_of asks.flags

-- so tasks of two forms are not asked
pub one_form : (a : ByKind) (task other : AskTask) (name again : List ℕ) → AsksByKind a task name → AsksByKind a other again → task_form task ≡ task_form other
one_form a task other name again one also = sym (same_form a task name one) ∙ same_form a other again also

-- a text has one phrase or one fault
pub record OneReading : Type 0 where
  pub tree : HasOneTree
  pub fault : HasOneFault
  pub exclusive : ReadTextHasNoFault

-- a fault with a rejection is none of memory
as_fault : (text : List ℕ) (r : Rejection) (is : IsMisputText text r) → IsFaultOf text is.fault
as_fault text r is = record { misread = is.misread; no_memory = λ memory. none-some r (ap question_rejection (sym memory) ∙ is.rejection_is) }

-- a text puts one task with some options
module _ (law : OneReading) (text : List ℕ) (options : AskOptions) where
  one_misput : (r s : Rejection) → IsMisputText text r → IsMisputText text s → r ≡ s
  one_misput r s one also =
      let same = law.fault text one.fault also.fault (as_fault text r one) (as_fault text s also) in
      let both : Some r ≡ Some s = sym one.rejection_is ∙ ap question_rejection same ∙ also.rejection_is in
      cc

  put_or_misput : (phrase : Phrase) (r : Rejection) → IsTextOfPhrase text phrase → IsMisputText text r → ⊥
  put_or_misput phrase r one also = law.exclusive text one.tree also.fault one.read (as_fault text r also)

  one_put : (task other : AskTask) → PutsText text options task → PutsText text options other → task ≡ other
  one_put (Put phrase o) (Put next u) (one, is) (also, it) =
      let same : phrase ≡ next = sym one.phrase_is ∙ law.tree text one.tree also.tree one.read also.read ∙ also.phrase_is in
      let set : o ≡ u = is ∙ sym it in
      λ i. Put (same i) (set i)
  one_put (Put phrase o) (Misput r) (one, is) also = absurd (put_or_misput phrase r one also)
  one_put (Put phrase o) Check one also = absurd also
  one_put (Put phrase o) (Judge u) one also = absurd also
  one_put (Misput r) (Put phrase u) one (also, it) = absurd (put_or_misput phrase r also one)
  one_put (Misput r) (Misput s) one also = ap Misput (one_misput r s one also)
  one_put (Misput r) Check one also = absurd also
  one_put (Misput r) (Judge u) one also = absurd also
  one_put Check other one also = absurd one
  one_put (Judge u) other one also = absurd one

-- the task and the name are the same
abbrev pub AreSame : AskTask → AskTask → List ℕ → List ℕ → Type 0
AreSame task other name again = (task ≡ other) × (name ≡ again)

-- one name
one_name : (plain : List (List ℕ)) (name again : List ℕ) → IsNameOnly plain name → IsNameOnly plain again → name ≡ again
one_name plain name again one also = ap (λ (list : List (List ℕ)). get_or list 0 []) (sym one.arguments ∙ also.arguments)

-- options
one_options : (a : ByKind) (o u : AskOptions) → o.brief ≡ u.brief → o.conflicts ≡ u.conflicts → o ≡ u
one_options a o u brief conflicts = λ i. record { brief = brief i; conflicts = conflicts i }

-- a question is put once
one_asked : OneReading → (a : ByKind) (task other : AskTask) (name again : List ℕ) → RequestsQuestion a name task → RequestsQuestion a again other → AreSame task other name again
one_asked law a task other name again one also =
    let both : name ∷ one.text ∷ [] ≡ again ∷ also.text ∷ [] = sym one.plain.arguments ∙ also.plain.arguments in
    let text : one.text ≡ also.text = ap (λ (list : List (List ℕ)). get_or list 1 []) both in
    let brief : one.options.brief ≡ also.options.brief = ap (λ (f : Flags). f.brief) (sym one.flags ∙ also.flags) in
    let options = one_options a one.options also.options brief (one_budget a.settings one.options.conflicts also.options.conflicts one.conflicts also.conflicts) in
    let puts : PutsText also.text also.options task = subst (λ (t : List ℕ). PutsText t also.options task) text (subst (λ (o : AskOptions). PutsText one.text o task) options one.puts) in
    (one_put law also.text also.options task other puts also.puts, ap (λ (list : List (List ℕ)). get_or list 0 []) both)

-- rules are judged once
one_judged : (a : ByKind) (o u : AskOptions) (name again : List ℕ) → AsksRules a name o → AsksRules a again u → AreSame (Judge o) (Judge u) name again
one_judged a o u name again one also =
    let brief : o.brief ≡ u.brief = ap (λ (f : Flags). f.brief) (sym one.flags ∙ also.flags) in
    let options = one_options a o u brief (one_budget a.settings o.conflicts u.conflicts one.conflicts also.conflicts) in
    (ap Judge options, one_name a.plain name again one.plain also.plain)

-- arguments by their kinds ask for one task
one_by_kind : OneReading → (a : ByKind) (task other : AskTask) (name again : List ℕ) → AsksByKind a task name → AsksByKind a other again → task_form task ≡ task_form other → AreSame task other name again
one_by_kind law a (Put p o) (Put q u) name again one also same = one_asked law a (Put p o) (Put q u) name again one also
one_by_kind law a (Put p o) (Misput r) name again one also same = one_asked law a (Put p o) (Misput r) name again one also
one_by_kind law a (Put p o) Check name again one also same = absurd (omega arith)
one_by_kind law a (Put p o) (Judge u) name again one also same = absurd (omega arith)
one_by_kind law a (Misput s) (Put q u) name again one also same = one_asked law a (Misput s) (Put q u) name again one also
one_by_kind law a (Misput s) (Misput r) name again one also same = one_asked law a (Misput s) (Misput r) name again one also
one_by_kind law a (Misput s) Check name again one also same = absurd (omega arith)
one_by_kind law a (Misput s) (Judge u) name again one also same = absurd (omega arith)
one_by_kind law a Check (Put q u) name again one also same = absurd (omega arith)
one_by_kind law a Check (Misput r) name again one also same = absurd (omega arith)
one_by_kind law a Check Check name again one also same = (refl, one_name a.plain name again one.plain also.plain)
one_by_kind law a Check (Judge u) name again one also same = absurd (omega arith)
one_by_kind law a (Judge o) (Put q u) name again one also same = absurd (omega arith)
one_by_kind law a (Judge o) (Misput r) name again one also same = absurd (omega arith)
one_by_kind law a (Judge o) Check name again one also same = absurd (omega arith)
one_by_kind law a (Judge o) (Judge u) name again one also same = one_judged a o u name again one also

-- arguments request one task
pub one_request : OneReading → (args : List (List ℕ)) (task other : AskTask) (name again : List ℕ) → RequestsAsk args task name → RequestsAsk args other again → AreSame task other name again
one_request law args task other name again one also =
    let asks : AsksByKind also.by_kind task name = subst (λ (a : ByKind). AsksByKind a task name) (one_sorting args one.by_kind also.by_kind one.sorted also.sorted) one.asks in
    one_by_kind law also.by_kind task other name again asks also.asks (one_form also.by_kind task other name again asks also.asks)

-- `--check` is asked without another option
pub check_alone : (a : ByKind) (task : AskTask) (name : List ℕ) → a.flags.check ≡ true → AsksByKind a task name → (a.flags.brief ≡ false) × (a.flags.all ≡ false) × (a.settings ≡ [])
check_alone a (Put p o) name on asks = absurd (let off : a.flags.check ≡ false = ap (λ (f : Flags). f.check) asks.flags in cc)
check_alone a (Misput r) name on asks = absurd (let off : a.flags.check ≡ false = ap (λ (f : Flags). f.check) asks.flags in cc)
check_alone a Check name on asks = (ap (λ (f : Flags). f.brief) asks.flags, ap (λ (f : Flags). f.all) asks.flags, asks.unset)
check_alone a (Judge o) name on asks = absurd (let off : a.flags.check ≡ false = ap (λ (f : Flags). f.check) asks.flags in cc)

-- what arguments by their kinds request, or that they request nothing, the arguments do too
pub by_kind_requested : (args : List (List ℕ)) (a : ByKind) (found : Option AskRequest) → AreByKind args a → IsRequestByKind a found → IsAskRequest args found
by_kind_requested args a None sorted none = λ task name requests.
    none task name (subst (λ (b : ByKind). AsksByKind b task name) (one_sorting args requests.by_kind a requests.sorted sorted) requests.asks)
by_kind_requested args a (Some request) sorted asks = record { by_kind = a; sorted = sorted; asks = asks }
