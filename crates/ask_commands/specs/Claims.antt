-- What the output of `ask` says of a question, and what it is to keep a rule.
use Rattle.std.specs.Prelude.{◌≡◌, ℕ, List, [], ◌∷◌, ◌++◌, codes}
use Rattle.std.specs.List.{Contains}
use Rattle.bspl_types.specs.declared.expanded.Expanded.{Expanded}
use Rattle.list_base.specs.Lines.{line_of}
use Rattle.protocol_rules.specs.declared.rule.Rule.{Rule}
use Rattle.protocol_rules.specs.declared.rule.Sense.{Sense}
use Rattle.protocol_rules.specs.declared.rule.Sense.TheVariants as sense
use Rattle.protocol_rules.specs.Rules.{AreRulesOf}
use Rattle.question_text.specs.declared.tree.Tree.{Tree}
use Rattle.question_text.specs.Meaning.{AsksQuestion}
use Rattle.question_text.specs.QuestionText.{tree_spelling}
use Rattle.questions.specs.declared.question.Question.{Question}
use Rattle.questions.specs.Answer.{IsPossible}
use Rattle.tool_input.specs.Lines.{line}
use Rattle.tool_input.specs.Parts.{protocol_text}
use Rattle.ask_commands.specs.AskAnswer.{asked_protocol_line}

-- after the line of the protocol comes that word on the question
pub record SaysOfQuestion (word : List ℕ) (x : Expanded) (tree : Tree) (out : List ℕ)
    : Type 0 where
  pub rest : List ℕ
  pub text : out ≡ asked_protocol_line x ++ line_of (word ∷ tree_spelling tree ∷ []) ++ rest

-- the line `possible`, and the line `impossible`
abbrev pub SaysPossible : Expanded → Tree → List ℕ → Type 0
SaysPossible x tree out = SaysOfQuestion (codes "possible") x tree out

abbrev pub SaysImpossible : Expanded → Tree → List ℕ → Type 0
SaysImpossible x tree out = SaysOfQuestion (codes "impossible") x tree out

-- the line `accepted impossible` on the question of the text
abbrev pub SaysAcceptedQuestion : List ℕ → List ℕ → Type 0
SaysAcceptedQuestion text out = out ≡ line (codes "accepted impossible " ++ text)

-- what is never to be is impossible, and what is to be possible is
abbrev pub KeepsRule : Expanded → Sense → Question → Type 0
KeepsRule x sense.Never q = ¬ IsPossible x q
KeepsRule x sense.Some q = IsPossible x q

-- a rule of the protocol in its text has that sense and asks this
pub record IsRuleIn (x : Expanded) (input : List ℕ) (sense : Sense) (q : Question) : Type 0 where
  pub rules : List Rule
  pub of_text : AreRulesOf (protocol_text input) x.name rules
  pub rule : Rule
  pub among : Contains rules rule
  pub sense_is : rule.sense ≡ sense
  pub asks : AsksQuestion x rule.question q
