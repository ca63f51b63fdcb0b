-- What an output of `ask` says is true of the protocol that the input declares.
use Rattle.std.proofs.Common.{◌≡◌, ◌≢◌, ℕ, List, [], ◌∷◌, ◌++◌, get_or, refl, sym, ap, subst, ◌∙◌, arith}
use Rattle.ask_commands.specs.declared.options.AskOptions.{AskOptions}
use Rattle.ask_commands.specs.AskRules.{ask_rules}
use Rattle.ask_commands.specs.AskTask.{AskTask, Check, Judge, Put}
use Rattle.ask_commands.specs.Claims.{KeepsRule, IsRuleIn, SaysAcceptedQuestion, SaysImpossible, SaysPossible}
use Rattle.ask_commands.specs.Laws.{AcceptedIsImpossible, DoneRulesAreKept, HasBrokenRule, RefutedRulesAreBroken, SaidImpossibleIs, SaidPossibleIs}
use Rattle.ask_commands.specs.RulesAnswer.{IsRulesAnswer}
use Rattle.bspl_types.specs.declared.expanded.Expanded.{Expanded}
use Rattle.protocol_rules.specs.declared.rule.Sense.{Sense}
use Rattle.question_text.specs.declared.tree.Tree.{Tree}
use Rattle.question_text.specs.Meaning.{AsksQuestion}
use Rattle.question_text.specs.QuestionText.{IsQuestionText}
use Rattle.question_text.specs.Tree.{phrase_of}
use Rattle.questions.specs.declared.question.Question.{Question}
use Rattle.questions.specs.Answer.{IsPossible}
use Rattle.tool_input.specs.declared.rejection.Rejection.{Rejection}
use Rattle.tool_input.specs.declared.status.Status.{Status}
use Rattle.tool_input.specs.declared.status.Status.TheVariants as status
use Rattle.tool_input.specs.Interface.{task_bytes}
use Rattle.tool_input.specs.Laws.{OneDeclaration}
use Rattle.tool_input.specs.Need.{HasGiven}
use Rattle.tool_input.specs.Output.{AnswersInput, DoesTask, Output, done, refused, usage}
use Rattle.tool_input.specs.Parts.{protocol_text}
use Rattle.tool_input.specs.Rejection.{rejection_line}
use Rattle.tool_input.specs.TaskLaws.{OneTask}
use Rattle.more_commands.specs.Laws.{AreAskedOf}
use Rattle.more_commands.specs.Interface.{IsMoreRefusal, more_interface}
use Rattle.more_commands.specs.Task.{Ask, MoreTask, more_rules}

-- the first byte of a text
first : List ℕ → ℕ
first text = get_or text 0 0

-- the line of a rejection does not begin as that of a protocol, or of an accepted log
not_protocol : (x : Expanded) (tree : Tree) (out : List ℕ) → SaysPossible x tree out → (r : Rejection) → out ≢ rejection_line r
unfolding first
not_protocol x tree out says r is = let no : 112 ≡ 114 = ap first (sym says.text ∙ is) in omega (arith, no)

not_protocol_either : (x : Expanded) (tree : Tree) (out : List ℕ) → SaysImpossible x tree out → (r : Rejection) → out ≢ rejection_line r
unfolding first
not_protocol_either x tree out says r is = let no : 112 ≡ 114 = ap first (sym says.text ∙ is) in omega (arith, no)

not_accepted : (text out : List ℕ) → SaysAcceptedQuestion text out → (r : Rejection) → out ≢ rejection_line r
unfolding first
not_accepted text out says r is = let no : 97 ≡ 114 = ap first (sym says ∙ is) in omega (arith, no)

-- an answer to a task of `ask`
pub record IsAnswered (x : Expanded) (input : List ℕ) (task : AskTask) (out : List ℕ) (ends : Status) : Type 0 where
  pub given : List ℕ
  pub has_given : HasGiven (ask_rules task).needs input given
  pub answer : (ask_rules task).answers x given out ends

-- what is answered is answered to the task that is asked
module _ (one : OneTask more_interface) (declared_once : OneDeclaration) (args : List (List ℕ)) (input : List ℕ) (x : Expanded) (task : AskTask) (asked : AreAskedOf args input x task) where
  -- so is a right answer on the input
  answers_of : (out : List ℕ) (ends : Status) → AnswersInput (ask_rules task) asked.name input out ends → IsAnswered x input task out ends
  answers_of out ends answers =
      let protocol : answers.protocol ≡ x = declared_once asked.name (protocol_text input) answers.protocol x answers.judged asked.declared in
      record { given = answers.given; has_given = answers.has_given; answer = subst (λ (y : Expanded). (ask_rules task).answers y answers.given out ends) protocol answers.answer }

  -- what is done
  about : (out : List ℕ) (ends : Status) → DoesTask more_interface args input out ends → IsAnswered x input task out ends
  about out ends is =
      let same = one args is.task (Ask task) is.name asked.name is.read.requested asked.requested in
      let named : AnswersInput (more_rules is.task) asked.name (task_bytes more_interface is.task input) out ends = subst (λ (n : List ℕ). AnswersInput (more_rules is.task) n (task_bytes more_interface is.task input) out ends) same.1 is.answered in
      answers_of out ends (subst (λ (t : MoreTask). AnswersInput (more_rules t) asked.name (task_bytes more_interface t input) out ends) same.0 named)

  -- and an output that is no rejection
  answered : (out : List ℕ) (ends : Status) → ((r : Rejection) → out ≡ rejection_line r → ends ≡ status.Refused → ⊥) → Output more_interface args input out ends → IsAnswered x input task out ends
  answered _ _ whole (usage none) = absurd (none (Ask task, asked.name, asked.requested))
  answered out _ whole (refused _ r is) =
      let line : out ≡ rejection_line r = subst (λ (t : MoreTask). IsMoreRefusal t (task_bytes more_interface t input) r out) (one args is.task (Ask task) is.name asked.name is.requested asked.requested).0 is.text in
      absurd (whole r line refl)
  answered out ends whole (done _ _ is) = about out ends is

module _ (one : OneTask more_interface) (declared_once : OneDeclaration) (args : List (List ℕ)) (input : List ℕ) (x : Expanded) where
  pub possible_true : SaidPossibleIs → (out : List ℕ) (ends : Status) (tree : Tree) (options : AskOptions) (q : Question) → AreAskedOf args input x (Put (phrase_of tree) options) → AsksQuestion x tree q → Output more_interface args input out ends → SaysPossible x tree out → IsPossible x q
  possible_true law out ends tree options q asked asks output says =
      let is = answered one declared_once args input x (Put (phrase_of tree) options) asked out ends (λ r line ended. not_protocol x tree out says r line) output in
      law x tree options out ends q is.answer asks says

  pub impossible_true : SaidImpossibleIs → (out : List ℕ) (ends : Status) (tree : Tree) (options : AskOptions) (q : Question) → AreAskedOf args input x (Put (phrase_of tree) options) → AsksQuestion x tree q → Output more_interface args input out ends → SaysImpossible x tree out → ¬ IsPossible x q
  impossible_true law out ends tree options q asked asks output says =
      let is = answered one declared_once args input x (Put (phrase_of tree) options) asked out ends (λ r line ended. not_protocol_either x tree out says r line) output in
      law x tree options out ends q is.answer asks says

  pub accepted_true : AcceptedIsImpossible → (text out : List ℕ) (ends : Status) (tree : Tree) (q : Question) → AreAskedOf args input x Check → IsQuestionText text tree → AsksQuestion x tree q → Output more_interface args input out ends → SaysAcceptedQuestion text out → ¬ IsPossible x q
  accepted_true law text out ends tree q asked read asks output says =
      let is = answered one declared_once args input x Check asked out ends (λ r line ended. not_accepted text out says r line) output in
      law x is.given text out ends tree q is.answer read asks says

  -- rules are judged on the whole input
  judged : (options : AskOptions) (out : List ℕ) (ends : Status) → IsAnswered x input (Judge options) out ends → IsRulesAnswer x input options out ends
  judged options out ends is = subst (λ (bytes : List ℕ). IsRulesAnswer x bytes options out ends) is.has_given is.answer

  pub kept_true : DoneRulesAreKept → (out : List ℕ) (options : AskOptions) (sense : Sense) (q : Question) → AreAskedOf args input x (Judge options) → Output more_interface args input out status.Done → IsRuleIn x input sense q → KeepsRule x sense q
  kept_true law out options sense q asked output rule_in =
      let is = answered one declared_once args input x (Judge options) asked out status.Done (λ r line ended. absurd (cc)) output in
      law x input out options sense q (judged options out status.Done is) rule_in

  pub broken_true : RefutedRulesAreBroken → (out : List ℕ) (options : AskOptions) → AreAskedOf args input x (Judge options) → Output more_interface args input out status.Refuted → HasBrokenRule x input
  broken_true law out options asked output =
      let is = answered one declared_once args input x (Judge options) asked out status.Refuted (λ r line ended. absurd (cc)) output in
      law x input out options (judged options out status.Refuted is)
