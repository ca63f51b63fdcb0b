-- Arguments that ask for a formula, and an input, have one output.
use Rattle.std.proofs.Common.{◌≡◌, ℕ, ◌<◌, ◌≤◌, List, [], None, Some, length, refl, sym, ap, subst, inl, inr, ◌⊎◌, ◌∙◌, arith}
use Rattle.std.proofs.lemmas.Option.{none-some}
use Rattle.ask_commands.specs.AskAnswer.{IsAskRefused, name_rejection, phrase_spelling}
use Rattle.ask_commands.specs.AskTask.{IsTextOfPhrase}
use Rattle.bspl_types.specs.declared.expanded.Expanded.{Expanded}
use Rattle.bspl_types.specs.declared.refusals.Refusal.{Refusal}
use Rattle.bspl_types.specs.Limits.{input_limit}
use Rattle.formula_text.specs.FormulaText.{IsEnactText}
use Rattle.formula_text.specs.AskedLaws.{OneQuestionText, SameHasSameFormula}
use Rattle.formula_text.specs.Laws.{OneEnactText, OneText}
use Rattle.question_text.specs.declared.tree.Tree.{Tree}
use Rattle.question_text.specs.declared.unknown.UnknownName.{UnknownName}
use Rattle.question_text.specs.declared.unknown.UnknownName.TheVariants as unknowns
use Rattle.question_text.specs.MeaningLaws.{AskedHasNoUnknownName, HasOneUnknownName, MeansOneQuestion}
use Rattle.question_text.specs.Tree.{Phrase, phrase_of}
use Rattle.question_text.specs.Unknown.{IsFirstUnknownName, IsUnknownIn, names_in}
use Rattle.tool_input.specs.Interface.{RequestsInput, task_bytes}
use Rattle.tool_input.specs.TaskLaws.{OneTask}
use Rattle.tool_input.specs.Output.{AnswersInput, Output, done, refused, usage}
use Rattle.tool_input.specs.Refusals.{Refuses, RefusesInput, command, no_part, text}
use Rattle.tool_input.specs.declared.rejection.Rejection.{Rejection}
use Rattle.tool_input.specs.declared.status.Status.{Status}
use Rattle.tool_input.specs.declared.status.Status.TheVariants.{Refused}
use Rattle.tool_input.specs.Laws.{DeclaredIsNotRefused, OneDeclaration, OneTextRefusal}
use Rattle.bspl_types.specs.NamedParts.{OneMessageOfAName}
use Rattle.tool_input.specs.Parts.{protocol_text}
use Rattle.tool_input.specs.Rejection.{over_limit, rejection_line, text_rejection}
use Rattle.more_commands.specs.FormulaAnswer.{IsAskedText, IsFormulaRefused, IsTextOfSubject, formula_rules}
use Rattle.more_commands.specs.FormulaArguments.{Asked, AsksFormula, Dead, FormulaSubject, Misput, PutText, Whole, formula_refused_at_once}
use Rattle.more_commands.specs.Interface.{IsMoreRefusal, more_interface}
use Rattle.more_commands.specs.Task.{Formula, MoreTask, RequestsMore, more_refused_at_once, more_rules}

-- what the crates below have once
pub record OneEach : Type 0 where
  pub task : OneTask more_interface
  pub declared : OneDeclaration
  pub refusal : OneTextRefusal
  pub exclusive : DeclaredIsNotRefused
  pub message : OneMessageOfAName
  pub property_text : OneText
  pub enact_text : OneEnactText
  pub question : MeansOneQuestion
  pub unknown : HasOneUnknownName
  pub asked : AskedHasNoUnknownName
  pub same_text : SameHasSameFormula
  pub question_text : OneQuestionText

-- a phrase that is asked for is that of a tree
abbrev HasTree : FormulaSubject → Type 0
HasTree (Whole property) = Unit {0}
HasTree (Dead name) = Unit {0}
HasTree (Asked phrase) = (tree : Tree) × (phrase_of tree ≡ phrase)
HasTree (Misput r) = Unit {0}

-- two rejections of one refusal
same_rejection : (r s : Refusal) (a b : Rejection) → r ≡ s → text_rejection r ≡ Some a → text_rejection s ≡ Some b → a ≡ b
same_rejection r s a b same one other =
    let both : Some a ≡ Some b = sym one ∙ ap text_rejection same ∙ other in cc

-- an unknown name that is rejected is a first one
as_first : (x : Expanded) (tree : Tree) (name : UnknownName) (r : Rejection) → IsUnknownIn x (names_in (phrase_of tree)) name → name_rejection name ≡ Some r → IsFirstUnknownName x tree name
as_first x tree (unknowns.Message name) r is rejection = is
as_first x tree (unknowns.Role name) r is rejection = is
as_first x tree (unknowns.Parameter name) r is rejection = is
as_first x tree unknowns.NoMemory r is rejection = absurd (let no : None ≡ Some r = rejection in none-some r no)

-- a question has one
one_unknown : OneEach → (x : Expanded) (tree : Tree) (a b : Rejection) → IsAskRefused x (phrase_of tree) a → IsAskRefused x (phrase_of tree) b → a ≡ b
one_unknown each x tree a b one other =
    let same = each.unknown x tree tree one.unknown other.unknown refl (as_first x tree one.unknown a one.first one.rejection_is) (as_first x tree other.unknown b other.first other.rejection_is) in
    let both : Some a ≡ Some b = sym one.rejection_is ∙ ap name_rejection same ∙ other.rejection_is in cc

-- a protocol lacks what is asked for in one way
one_lack : OneEach → (x : Expanded) (subject : FormulaSubject) → HasTree subject → (a b : Rejection) → IsFormulaRefused x subject a → IsFormulaRefused x subject b → a ≡ b
one_lack each x (Whole property) has a b one other = absurd one
one_lack each x (Dead name) has a b one other = one.rejection_is ∙ sym other.rejection_is
one_lack each x (Asked phrase) has a b one other =
    one_unknown each x has.0 a b (subst (λ (p : Phrase). IsAskRefused x p a) (sym has.1) one) (subst (λ (p : Phrase). IsAskRefused x p b) (sym has.1) other)
one_lack each x (Misput r) has a b one other = one ∙ sym other

-- an input is refused for one reason
one_refusal : OneEach → (name : List ℕ) (subject : FormulaSubject) → HasTree subject → (input : List ℕ) (a b : Rejection) → RefusesInput (formula_rules subject) name input a → RefusesInput (formula_rules subject) name input b → a ≡ b
one_refusal each name subject has input _ b (no_part part lacks) other = absurd (let needs = lacks.is_needed in cc)
one_refusal each name subject has input a _ one (no_part part lacks) = absurd (let needs = lacks.is_needed in cc)
one_refusal each name subject has input a b (text given r _ given_is refuses is) (text given' s _ given_is' refuses' is') =
    same_rejection r s a b (each.refusal name (protocol_text input) r s refuses refuses') is is'
one_refusal each name subject has input a b (text given r _ given_is refuses is) (command given' x _ given_is' declared' why') =
    absurd (each.exclusive name (protocol_text input) x r declared' refuses)
one_refusal each name subject has input a b (command given x _ given_is declared why) (text given' s _ given_is' refuses' is') =
    absurd (each.exclusive name (protocol_text input) x s declared refuses')
one_refusal each name subject has input a b (command given x _ given_is declared why) (command given' y _ given_is' declared' why') =
    let same = each.declared name (protocol_text input) x y declared declared' in
    one_lack each y subject has a b (subst (λ (z : Expanded). IsFormulaRefused z subject a) same why) why'

-- a protocol that lacks a name of a question has no text for it
no_question_text : OneEach → (x : Expanded) (tree : Tree) (out : List ℕ) (r : Rejection) → IsAskRefused x (phrase_of tree) r → IsAskedText x (phrase_of tree) out → ⊥
no_question_text each x tree out r none prints =
    each.asked x tree tree prints.question none.unknown refl prints.means (as_first x tree none.unknown r none.first none.rejection_is)

-- nor for another formula
no_text : OneEach → (x : Expanded) (subject : FormulaSubject) → HasTree subject → (out : List ℕ) (r : Rejection) → IsFormulaRefused x subject r → IsTextOfSubject subject x out → ⊥
no_text each x (Whole property) has out r none prints = none
no_text each x (Dead name) has out r none prints = none.unknown prints.message prints.named
no_text each x (Asked phrase) has out r none prints =
    no_question_text each x has.0 out r (subst (λ (p : Phrase). IsAskRefused x p r) (sym has.1) none) (subst (λ (p : Phrase). IsAskedText x p out) (sym has.1) prints)
no_text each x (Misput reason) has out r none prints = prints

-- an input is printed or refused
printed_or_refused : OneEach → (name : List ℕ) (subject : FormulaSubject) → HasTree subject → (input out : List ℕ) (status : Status) (r : Rejection) → AnswersInput (formula_rules subject) name input out status → RefusesInput (formula_rules subject) name input r → ⊥
printed_or_refused each name subject has input out status _ prints (no_part part lacks) = let needs = lacks.is_needed in cc
printed_or_refused each name subject has input out status r prints (text given refusal _ given_is refuses is) =
    each.exclusive name (protocol_text input) prints.protocol refusal prints.judged refuses
printed_or_refused each name subject has input out status r prints (command given x _ given_is declared why) =
    let same = each.declared name (protocol_text input) prints.protocol x prints.judged declared in
    no_text each x subject has out r why (subst (λ (y : Expanded). IsTextOfSubject subject y out) same prints.answer.printed)

-- a question has one text
asked_text_once : OneEach → (x : Expanded) (tree : Tree) (a b : List ℕ) → IsAskedText x (phrase_of tree) a → IsAskedText x (phrase_of tree) b → a ≡ b
asked_text_once each x tree a b one other =
    let spelling = phrase_spelling (phrase_of tree) in
    let same = each.question x tree tree one.question other.question refl one.means other.means in
    each.question_text spelling x other.question a b (each.same_text spelling x one.question other.question a same one.text_is) other.text_is

-- a protocol has one text of a formula
text_once : OneEach → (x : Expanded) (subject : FormulaSubject) → HasTree subject → (a b : List ℕ) → IsTextOfSubject subject x a → IsTextOfSubject subject x b → a ≡ b
text_once each x (Whole property) has a b one other = each.property_text property x a b one other
text_once each x (Dead name) has a b one other =
    let same = each.message x name one.message other.message one.named other.named in
    each.enact_text x other.message a b (subst (λ (m : ℕ). IsEnactText x m a) same one.text_is) other.text_is
text_once each x (Asked phrase) has a b one other =
    asked_text_once each x has.0 a b (subst (λ (p : Phrase). IsAskedText x p a) (sym has.1) one) (subst (λ (p : Phrase). IsAskedText x p b) (sym has.1) other)
text_once each x (Misput r) has a b one other = absurd one

-- an input has one
printed_once : OneEach → (name : List ℕ) (subject : FormulaSubject) → HasTree subject → (input a b : List ℕ) (s t : Status) → AnswersInput (formula_rules subject) name input a s → AnswersInput (formula_rules subject) name input b t → (a ≡ b) × (s ≡ t)
printed_once each name subject has input a b s t one other =
    let same = each.declared name (protocol_text input) one.protocol other.protocol one.judged other.judged in
    (text_once each other.protocol subject has a b (subst (λ (x : Expanded). IsTextOfSubject subject x a) same one.answer.printed) other.answer.printed, one.answer.done ∙ sym other.answer.done)

-- the input is too long, or refused
abbrev Reason : List ℕ → FormulaSubject → List ℕ → Rejection → Type 0
Reason name subject input r =
    ((input_limit < length input) × (r ≡ over_limit input_limit)) ⊎ ((length input ≤ input_limit) × RefusesInput (formula_rules subject) name input r)

-- there is one such reason
reason_once : OneEach → (name : List ℕ) (subject : FormulaSubject) → HasTree subject → (input : List ℕ) (a b : Rejection) → Reason name subject input a → Reason name subject input b → a ≡ b
reason_once each name subject has input a b (inl (long, is)) (inl (again, also)) = is ∙ sym also
reason_once each name subject has input a b (inl (long, is)) (inr (short, refuses)) = absurd (omega arith)
reason_once each name subject has input a b (inr (short, refuses)) (inl (long, is)) = absurd (omega arith)
reason_once each name subject has input a b (inr (short, refuses)) (inr (again, also)) = one_refusal each name subject has input a b refuses also

-- an output that is the line of a reason
record IsReasonLine (name : List ℕ) (subject : FormulaSubject) (input out : List ℕ) (status : Status) : Type 0 where
  r : Rejection
  reason : Reason name subject input r
  line : out ≡ rejection_line r
  ends : status ≡ Refused

-- or a text
record IsPrinted (name : List ℕ) (subject : FormulaSubject) (input out : List ℕ) (status : Status) : Type 0 where
  short : length input ≤ input_limit
  answers : AnswersInput (formula_rules subject) name input out status

-- not both
not_both : OneEach → (name : List ℕ) (subject : FormulaSubject) → HasTree subject → (input a b : List ℕ) (s t : Status) → IsReasonLine name subject input a s → IsPrinted name subject input b t → ⊥
not_both each name subject has input a b s t is prints =
    let short = prints.short in
    elim is.reason [
      | inl (long, _) ↦ omega (arith, long, short)
      | inr (_, refuses) ↦ printed_or_refused each name subject has input b t is.r prints.answers refuses
    ]

-- a text that is no question is refused at once
module _ (each : OneEach) (args : List (List ℕ)) (input : List ℕ) (reason : Rejection) (name : List ℕ) (requested : RequestsMore args (Formula (Misput reason)) name) where
  -- a task that such arguments request is this one
  not_accepted : (task : MoreTask) (again : List ℕ) → RequestsMore args task again → more_refused_at_once task ≡ None → ⊥
  not_accepted task again other accepted =
      let same = (each.task args task (Formula (Misput reason)) again name other requested).0 in
      let no : None ≡ Some reason = sym (subst (λ (t : MoreTask). more_refused_at_once t ≡ None) same accepted) in
      none-some reason no

  -- the reason of a refusal is that of the text
  misput_reason : (r : Rejection) → Refuses more_interface args input r → r ≡ reason
  misput_reason r (Refuses.at_once task again _ other is) =
      let same = (each.task args task (Formula (Misput reason)) again name other requested).0 in
      let both : Some reason ≡ Some r = subst (λ (t : MoreTask). more_refused_at_once t ≡ Some r) same is in
      cc
  misput_reason _ (Refuses.too_long asks long) = absurd (not_accepted asks.task asks.name asks.requested asks.accepted)
  misput_reason r (Refuses.read task again _ read refuses) = absurd (not_accepted task again read.requested read.accepted)

  -- an output is its line
  misput_output : (out : List ℕ) (status : Status) → Output more_interface args input out status → (out ≡ rejection_line reason) × (status ≡ Refused)
  misput_output _ _ (usage none) = absurd (none (Formula (Misput reason), name, requested))
  misput_output out _ (refused _ r is) =
      let same = (each.task args is.task (Formula (Misput reason)) is.name name is.requested requested).0 in
      let line : out ≡ rejection_line r = subst (λ (t : MoreTask). IsMoreRefusal t (task_bytes more_interface t input) r out) same is.text in
      (line ∙ ap rejection_line (misput_reason r is.reason), refl)
  misput_output out status (done _ _ is) = absurd (not_accepted is.task is.name is.read.requested is.read.accepted)

module _ (each : OneEach) (args : List (List ℕ)) (input : List ℕ) (subject : FormulaSubject) (name : List ℕ) (requested : RequestsMore args (Formula subject) name) (has : HasTree subject) (accepted : formula_refused_at_once subject ≡ None) where
  -- such arguments ask for the input
  asks : RequestsInput more_interface args
  asks = record { task = Formula subject; name = name; requested = requested; accepted = accepted; reads = refl }

  -- and request no other task
  same : (task : MoreTask) (again : List ℕ) → RequestsMore args task again → (task ≡ Formula subject) × (again ≡ name)
  same task again other = each.task args task (Formula subject) again name other requested

  -- the reason of a refusal
  reason_of : (r : Rejection) → Refuses more_interface args input r → Reason name subject input r
  reason_of r (Refuses.at_once task again _ other is) =
      let yes : formula_refused_at_once subject ≡ Some r = subst (λ (t : MoreTask). more_refused_at_once t ≡ Some r) (same task again other).0 is in
      absurd (none-some r (sym accepted ∙ yes))
  reason_of _ (Refuses.too_long asks' long) = inl (long, refl)
  reason_of r (Refuses.read task again _ read refuses) =
      let is = same task again read.requested in
      let named : RefusesInput (more_rules task) name (task_bytes more_interface task input) r = subst (λ (n : List ℕ). RefusesInput (more_rules task) n (task_bytes more_interface task input) r) is.1 refuses in
      inr (read.short asks, subst (λ (t : MoreTask). RefusesInput (more_rules t) name (task_bytes more_interface t input) r) is.0 named)

  -- what an output is
  output_of : (out : List ℕ) (status : Status) → Output more_interface args input out status → IsReasonLine name subject input out status ⊎ IsPrinted name subject input out status
  output_of _ _ (usage none) = absurd (none (Formula subject, name, requested))
  output_of out _ (refused _ r is) =
      let line : out ≡ rejection_line r = subst (λ (t : MoreTask). IsMoreRefusal t (task_bytes more_interface t input) r out) (same is.task is.name is.requested).0 is.text in
      inl (record { r = r; reason = reason_of r is.reason; line = line; ends = refl })
  output_of out status (done _ _ is) =
      let both = same is.task is.name is.read.requested in
      let named : AnswersInput (more_rules is.task) name (task_bytes more_interface is.task input) out status = subst (λ (n : List ℕ). AnswersInput (more_rules is.task) n (task_bytes more_interface is.task input) out status) both.1 is.answered in
      inr (record { short = is.read.short asks; answers = subst (λ (t : MoreTask). AnswersInput (more_rules t) name (task_bytes more_interface t input) out status) both.0 named })

  -- two outputs are one
  are_one : (out out' : List ℕ) (status status' : Status) → IsReasonLine name subject input out status ⊎ IsPrinted name subject input out status → IsReasonLine name subject input out' status' ⊎ IsPrinted name subject input out' status' → (out ≡ out') × (status ≡ status')
  are_one out out' status status' (inl one) (inl other) =
      (one.line ∙ ap rejection_line (reason_once each name subject has input one.r other.r one.reason other.reason) ∙ sym other.line, one.ends ∙ sym other.ends)
  are_one out out' status status' (inl one) (inr other) = absurd (not_both each name subject has input out out' status status' one other)
  are_one out out' status status' (inr one) (inl other) = absurd (not_both each name subject has input out' out status' status other one)
  are_one out out' status status' (inr one) (inr other) = printed_once each name subject has input out out' status status' one.answers other.answers

  read_once : (out out' : List ℕ) (status status' : Status) → Output more_interface args input out status → Output more_interface args input out' status' → (out ≡ out') × (status ≡ status')
  read_once out out' status status' one other = are_one out out' status status' (output_of out status one) (output_of out' status' other)

-- so arguments that ask for a formula, and an input, have one output
pub output_once : OneEach → (args : List (List ℕ)) (input : List ℕ) (subject : FormulaSubject) (name : List ℕ) → RequestsMore args (Formula subject) name → (out out' : List ℕ) (status status' : Status) → Output more_interface args input out status → Output more_interface args input out' status' → (out ≡ out') × (status ≡ status')
output_once each args input (Whole property) name requested = read_once each args input (Whole property) name requested tt refl
output_once each args input (Dead message) name requested = read_once each args input (Dead message) name requested tt refl
output_once each args input (Asked phrase) name requested =
    let asks : AsksFormula requested.rest name (Asked phrase) = requested.asks in
    let words : PutText asks.words (λ text. IsTextOfPhrase text phrase) = asks.subject_is in
    let put : IsTextOfPhrase words.text phrase = words.holds in
    read_once each args input (Asked phrase) name requested (put.tree, put.phrase_is) refl
output_once each args input (Misput reason) name requested = λ out out' status status' one other.
    let first = misput_output each args input reason name requested out status one in
    let second = misput_output each args input reason name requested out' status' other in
    (first.0 ∙ sym second.0, first.1 ∙ sym second.1)
