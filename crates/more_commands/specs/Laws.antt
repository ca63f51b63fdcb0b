-- What an output says is true, and which outputs are the only ones. Each statement is the contract
-- of a function.
use Rattle.std.specs.Prelude.{◌≡◌, ℕ, Bool, List, ◌∷◌, ◌++◌}
use Rattle.std.specs.List.{All}
use Rattle.answer_words.specs.Refusal.{IsRefusalText}
use Rattle.answer_words.specs.VerdictText.{IsVerdictWords}
use Rattle.ask_commands.specs.declared.options.AskOptions.{AskOptions}
use Rattle.ask_commands.specs.AskTask.{AskTask, Check, Judge, Put}
use Rattle.ask_commands.specs.Claims.{KeepsRule, IsRuleIn, SaysAcceptedQuestion, SaysImpossible, SaysPossible}
use Rattle.ask_commands.specs.Laws.{HasBrokenRule}
use Rattle.bspl_tool.specs.declared.task.Task.{Task}
use Rattle.bspl_tool.specs.declared.task.Task.TheVariants.{Verify}
use Rattle.bspl_tool.specs.Interface.{tool_interface}
use Rattle.bspl_types.specs.declared.expanded.Expanded.{Expanded}
use Rattle.enactment_model.specs.Liveness.{LiveProtocol}
use Rattle.enactment_model.specs.Safety.{SafeProtocol}
use Rattle.page_sections.specs.Laws.{IsTrulyShown}
use Rattle.protocol_rules.specs.declared.rule.Rule.{Rule}
use Rattle.protocol_rules.specs.declared.rule.Sense.{Sense}
use Rattle.question_text.specs.declared.tree.Tree.{Tree}
use Rattle.question_text.specs.Meaning.{AsksQuestion}
use Rattle.question_text.specs.QuestionText.{IsQuestionText}
use Rattle.question_text.specs.Tree.{phrase_of}
use Rattle.questions.specs.declared.question.Question.{Question}
use Rattle.questions.specs.Answer.{IsPossible}
use Rattle.tool_input.specs.Interface.{HasTask, task_bytes}
use Rattle.tool_input.specs.Output.{DoesTask, IsRefusedCall, Output}
use Rattle.tool_input.specs.declared.rejection.Rejection.{Rejection}
use Rattle.tool_input.specs.declared.status.Status.{Status}
use Rattle.tool_input.specs.declared.status.Status.TheVariants.{Done, Refused, Refuted}
use Rattle.tool_input.specs.Input.{Declares}
use Rattle.tool_input.specs.Parts.{protocol_text}
use Rattle.verdict.specs.declared.outcome.Verdicts.{Verdicts}
use Rattle.verdict_commands.specs.VerifyAnswer.{IsVerdictAnswer}
use Rattle.more_commands.specs.declared.word.CommandWord.TheVariants as word
use Rattle.more_commands.specs.ExplainAnswer.{IsExplainedAnswer}
use Rattle.more_commands.specs.FormulaArguments.{FormulaSubject}
use Rattle.more_commands.specs.Given.{Given}
use Rattle.more_commands.specs.PageAnswer.{IsPageAnswer}
use Rattle.more_commands.specs.StatusWords.{status_words}
use Rattle.more_commands.specs.Interface.{more_interface}
use Rattle.more_commands.specs.Task.{Ask, Formula, RequestsMore, word_text}

-- the arguments ask for the task on the protocol that the input declares
pub record AreAskedOf (args : List (List ℕ)) (input : List ℕ) (x : Expanded) (task : AskTask)
    : Type 0 where
  pub name : List ℕ
  pub requested : RequestsMore args (Ask task) name
  pub declared : Declares name (protocol_text input) x

-- the line `possible` is given only if some legal run gives the answer yes at some key
abbrev pub PossibleIsTrue : Type 0
PossibleIsTrue =
    (args : List (List ℕ)) (input out : List ℕ) (status : Status) (x : Expanded) (tree : Tree)
    (options : AskOptions) (q : Question) →
    AreAskedOf args input x (Put (phrase_of tree) options) → AsksQuestion x tree q →
    Output more_interface args input out status → SaysPossible x tree out → IsPossible x q

-- the line `impossible` only if none does
abbrev pub ImpossibleIsTrue : Type 0
ImpossibleIsTrue =
    (args : List (List ℕ)) (input out : List ℕ) (status : Status) (x : Expanded) (tree : Tree)
    (options : AskOptions) (q : Question) →
    AreAskedOf args input x (Put (phrase_of tree) options) → AsksQuestion x tree q →
    Output more_interface args input out status → SaysImpossible x tree out → ¬ IsPossible x q

-- nor is the line `accepted impossible` given otherwise
abbrev pub AcceptedIsTrue : Type 0
AcceptedIsTrue =
    (args : List (List ℕ)) (input text out : List ℕ) (status : Status) (x : Expanded)
    (tree : Tree) (q : Question) → AreAskedOf args input x Check → IsQuestionText text tree →
    AsksQuestion x tree q → Output more_interface args input out status →
    SaysAcceptedQuestion text out → ¬ IsPossible x q

-- the status 0 for rules is given only if the protocol keeps each of those in its text
abbrev pub KeptIsTrue : Type 0
KeptIsTrue =
    (args : List (List ℕ)) (input out : List ℕ) (x : Expanded) (options : AskOptions)
    (sense : Sense) (q : Question) → AreAskedOf args input x (Judge options) →
    Output more_interface args input out Done → IsRuleIn x input sense q → KeepsRule x sense q

-- and the status 1 only if it does not keep one
abbrev pub BrokenIsTrue : Type 0
BrokenIsTrue =
    (args : List (List ℕ)) (input out : List ℕ) (x : Expanded) (options : AskOptions) →
    AreAskedOf args input x (Judge options) → Output more_interface args input out Refuted →
    HasBrokenRule x input

-- arguments that ask for a formula, and an input, have one output and one status
abbrev pub OneFormulaOutput : Type 0
OneFormulaOutput =
    (args : List (List ℕ)) (input out out' : List ℕ) (status status' : Status)
    (subject : FormulaSubject) (name : List ℕ) → RequestsMore args (Formula subject) name →
    Output more_interface args input out status →
    Output more_interface args input out' status' → (out ≡ out') × (status ≡ status')

-- what a page says of a rule is true: that the protocol keeps it, or that it does not
abbrev pub PageRulesAreTrue : Type 0
PageRulesAreTrue =
    (x : Expanded) (rules : List Rule) (given : Given) (out : List ℕ) (status : Status)
    (page : IsPageAnswer x rules given out status) → All (IsTrulyShown x) page.judges.judged

-- a page with the status 0 is given of a safe and live protocol alone
abbrev pub DonePagesAreTrue : Type 0
DonePagesAreTrue =
    (x : Expanded) (rules : List Rule) (given : Given) (out : List ℕ) →
    IsPageAnswer x rules given out Done → SafeProtocol x × LiveProtocol x

-- so is an answer of `verify` in words
abbrev pub DoneAnswersAreTrue : Type 0
DoneAnswersAreTrue =
    (brief : Bool) (budget : ℕ) (x : Expanded) (out : List ℕ) →
    IsExplainedAnswer brief budget x out Done → SafeProtocol x × LiveProtocol x

-- words on right verdicts on the protocol that the input declares; the answer is their text
pub record AreVerifyWords (brief : Bool) (budget : ℕ) (name input answer words : List ℕ)
    : Type 0 where
  pub x : Expanded
  pub declared : Declares name (protocol_text input) x
  pub verdicts : Verdicts
  pub is_text : IsVerdictAnswer brief budget x verdicts answer
  pub are_words : IsVerdictWords x verdicts words

-- the words after an answer to the task: those on its verdicts, or those of its status
abbrev pub AreWordsAfter : Task → List ℕ → List ℕ → List ℕ → Status → List ℕ → Type 0
AreWordsAfter (Verify brief budget) name input answer status words =
    AreVerifyWords brief budget name input answer words
AreWordsAfter task name input answer status words = words ≡ status_words task status

-- the tool refuses what these arguments request, and then come words that explain the refusal
pub record ExplainsRefusal (args : List (List ℕ)) (bytes out : List ℕ) : Type 0 where
  pub answer : List ℕ
  pub rejection : Rejection
  pub call : IsRefusedCall tool_interface args bytes answer rejection
  pub words : List ℕ
  pub explain : IsRefusalText (task_bytes tool_interface call.task bytes) rejection
      (answer ++ words)
  pub is_out : out ≡ answer ++ words

-- the tool answers what they request, with this status, and then come the words after the answer
pub record ExplainsAnswer (args : List (List ℕ)) (bytes out : List ℕ) (status : Status)
    : Type 0 where
  pub answer : List ℕ
  pub does : DoesTask tool_interface args bytes answer status
  pub words : List ℕ
  pub after : AreWordsAfter does.task does.name (task_bytes tool_interface does.task bytes) answer
      status words
  pub is_out : out ≡ answer ++ words

-- a right output of the tool for these arguments, with this status, and then the words for it
pub data AddsWords (args : List (List ℕ)) (bytes out : List ℕ) : Status → Type 0 where
  to_refusal : ExplainsRefusal args bytes out → AddsWords args bytes out Refused
  to_answer : (status : Status) → ExplainsAnswer args bytes out status
      → AddsWords args bytes out status

-- what `explain` writes for a command line of the tool adds words to an output of the tool
abbrev pub AnswersAddWords : Type 0
AnswersAddWords =
    (args rest : List (List ℕ)) (bytes out : List ℕ) (status : Status) →
    args ≡ word_text word.Explain ∷ rest → HasTask tool_interface rest →
    Output more_interface args bytes out status → AddsWords rest bytes out status
