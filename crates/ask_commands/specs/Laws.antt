-- Which requests are the only ones, and what an answer says truly. Each statement is the contract of
-- a function.
use Rattle.std.specs.Prelude.{◌≡◌, ℕ, List}
use Rattle.bspl_types.specs.declared.expanded.Expanded.{Expanded}
use Rattle.protocol_rules.specs.declared.rule.Sense.{Sense}
use Rattle.question_text.specs.declared.tree.Tree.{Tree}
use Rattle.question_text.specs.Meaning.{AsksQuestion}
use Rattle.question_text.specs.QuestionText.{IsQuestionText}
use Rattle.question_text.specs.Tree.{phrase_of}
use Rattle.questions.specs.declared.question.Question.{Question}
use Rattle.questions.specs.Answer.{IsPossible}
use Rattle.tool_input.specs.declared.status.Status.{Status}
use Rattle.tool_input.specs.declared.status.Status.TheVariants as status
use Rattle.ask_commands.specs.declared.options.AskOptions.{AskOptions}
use Rattle.ask_commands.specs.AskAnswer.{IsAskAnswer}
use Rattle.ask_commands.specs.AskTask.{AskTask, RequestsAsk}
use Rattle.ask_commands.specs.CheckAnswer.{IsCheckAskAnswer}
use Rattle.ask_commands.specs.Claims.{KeepsRule, IsRuleIn, SaysAcceptedQuestion, SaysImpossible, SaysPossible}
use Rattle.ask_commands.specs.RulesAnswer.{IsRulesAnswer}

-- arguments request one task on one name at most
abbrev pub OneAsk : Type 0
OneAsk =
    (args : List (List ℕ)) (task other : AskTask) (name again : List ℕ) →
    RequestsAsk args task name → RequestsAsk args other again → (task ≡ other) × (name ≡ again)

-- the line `possible` is given only if some legal run gives the answer yes at some key
abbrev pub SaidPossibleIs : Type 0
SaidPossibleIs =
    (x : Expanded) (tree : Tree) (options : AskOptions) (out : List ℕ) (ends : Status)
    (q : Question) → IsAskAnswer x (phrase_of tree) options out ends → AsksQuestion x tree q →
    SaysPossible x tree out → IsPossible x q

-- the line `impossible` only if none does
abbrev pub SaidImpossibleIs : Type 0
SaidImpossibleIs =
    (x : Expanded) (tree : Tree) (options : AskOptions) (out : List ℕ) (ends : Status)
    (q : Question) → IsAskAnswer x (phrase_of tree) options out ends → AsksQuestion x tree q →
    SaysImpossible x tree out → ¬ IsPossible x q

-- nor is the line `accepted impossible` given otherwise
abbrev pub AcceptedIsImpossible : Type 0
AcceptedIsImpossible =
    (x : Expanded) (part text out : List ℕ) (ends : Status) (tree : Tree) (q : Question) →
    IsCheckAskAnswer x part out ends → IsQuestionText text tree → AsksQuestion x tree q →
    SaysAcceptedQuestion text out → ¬ IsPossible x q

-- the status 0 is given only if each rule is kept
abbrev pub DoneRulesAreKept : Type 0
DoneRulesAreKept =
    (x : Expanded) (input out : List ℕ) (options : AskOptions) (sense : Sense) (q : Question) →
    IsRulesAnswer x input options out status.Done → IsRuleIn x input sense q → KeepsRule x sense q

-- a rule that is not kept
pub record HasBrokenRule (x : Expanded) (input : List ℕ) : Type 0 where
  pub sense : Sense
  pub question : Question
  pub rule_in : IsRuleIn x input sense question
  pub broken : ¬ KeepsRule x sense question

-- the status 1 only if one is not
abbrev pub RefutedRulesAreBroken : Type 0
RefutedRulesAreBroken =
    (x : Expanded) (input out : List ℕ) (options : AskOptions) →
    IsRulesAnswer x input options out status.Refuted → HasBrokenRule x input
