-- The rules of a protocol in its text, and what they ask.
use Rattle.std.specs.Prelude.{ℕ, List}
use Rattle.std.specs.List.{AllZip}
use Rattle.bspl_types.specs.declared.expanded.Expanded.{Expanded}
use Rattle.protocol_rules.specs.declared.rule.Rule.{Rule}
use Rattle.protocol_rules.specs.Rules.{AreRulesOf}
use Rattle.question_text.specs.Meaning.{MeansQuestion}
use Rattle.question_text.specs.Tree.{phrase_of}
use Rattle.questions.specs.declared.question.Question.{Question}
use Rattle.questions.specs.Subject.{IsAbout}
use Rattle.tool_input.specs.Parts.{protocol_text}
use Rattle.ask_commands.specs.declared.rule_list.AskedRules.{AskedRules}

-- the rule asks this of the protocol
pub record IsQuestionOf (x : Expanded) (rule : Rule) (q : Question) : Type 0 where
  pub means : MeansQuestion x (phrase_of rule.question) q
  pub about : IsAbout x q

-- each of the rules has its question
abbrev pub HaveQuestions : Expanded → AskedRules → Type 0
HaveQuestions x asked = AllZip (IsQuestionOf x) asked.rules asked.questions

-- these are the rules of the protocol in the text of the input, with their questions
pub record AreAskedRules (x : Expanded) (input : List ℕ) (asked : AskedRules) : Type 0 where
  pub of_text : AreRulesOf (protocol_text input) x.name asked.rules
  pub questions : HaveQuestions x asked
