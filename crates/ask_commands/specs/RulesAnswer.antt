-- What `ask` answers with `--all` on an admitted protocol: of each rule in its text, whether it is
-- kept.
use Rattle.std.specs.Prelude.{◌≡◌, ℕ, List, ◌∷◌, ◌++◌, map, Option, None, Some}
use Rattle.std.specs.List.{All, flat_map, list_any}
use Rattle.bspl_types.specs.declared.expanded.Expanded.{Expanded}
use Rattle.protocol_rules.specs.declared.fault.RuleFault.{RuleFault}
use Rattle.protocol_rules.specs.declared.fault.RuleFault.TheVariants as fault
use Rattle.protocol_rules.specs.declared.rule.Rule.{Rule}
use Rattle.protocol_rules.specs.Laws.{said_by}
use Rattle.protocol_rules.specs.Rules.{AreRulesOf, IsBadRule}
use Rattle.question_text.specs.Meaning.{MeansQuestion}
use Rattle.question_text.specs.Tree.{phrase_of}
use Rattle.questions.specs.declared.question.Question.{Question}
use Rattle.tool_input.specs.declared.need.Need.TheVariants.{Input}
use Rattle.tool_input.specs.declared.rejection.Code.TheVariants.{Q}
use Rattle.tool_input.specs.declared.rejection.Field.TheVariants as field
use Rattle.tool_input.specs.declared.rejection.Rejection.{Rejection}
use Rattle.tool_input.specs.declared.status.Status.{Status}
use Rattle.tool_input.specs.Parts.{protocol_text}
use Rattle.tool_input.specs.Rejection.{with_one}
use Rattle.tool_input.specs.Rules.{CommandRules}
use Rattle.ask_commands.specs.declared.options.AskOptions.{AskOptions}
use Rattle.ask_commands.specs.AskAnswer.{IsAskRefused, asked_protocol_line}
use Rattle.ask_commands.specs.Judgement.{IsRightlyJudged, JudgedRule, is_judged_broken, is_left_open, judged_rule_text, rules_status, said_of}

-- each of the rules is judged, in order, and these are text and status
pub record AreJudged (x : Expanded) (options : AskOptions) (rules : List Rule) (out : List ℕ)
    (ends : Status) : Type 0 where
  pub judged : List JudgedRule
  pub one_each : map said_of judged ≡ map said_by rules
  pub right : All (IsRightlyJudged x options.conflicts) judged
  pub text : out ≡ asked_protocol_line x ++ flat_map (judged_rule_text x options.brief) judged
  pub ends_is : ends ≡ rules_status (list_any is_judged_broken judged)
      (list_any is_left_open judged)

-- these rules are those of the protocol in its text
pub record IsRulesAnswer (x : Expanded) (input : List ℕ) (options : AskOptions)
    (out : List ℕ) (ends : Status) : Type 0 where
  pub rules : List Rule
  pub of_text : AreRulesOf (protocol_text input) x.name rules
  pub answer : AreJudged x options rules out ends

-- a line that is no rule is rejected as a text that is no question
abbrev pub rule_rejection : RuleFault → Option Rejection
rule_rejection (fault.Byte offset) = Some (with_one (Q 1) (field.Number offset))
rule_rejection (fault.TooLong offset count) = Some (with_one (Q 2) (field.Number count))
rule_rejection (fault.Syntax offset) = Some (with_one (Q 3) (field.Number offset))
rule_rejection fault.NoMemory = None

-- the rule asks something of the protocol
abbrev pub IsAskedOf : Expanded → Rule → Type 0
IsAskedOf x rule = (q : Question) × MeansQuestion x (phrase_of rule.question) q

-- the rules before one ask something of the protocol, and that one is refused
pub record IsFirstRefused (x : Expanded) (rules : List Rule) (r : Rejection) : Type 0 where
  pub before : List Rule
  pub rule : Rule
  pub after : List Rule
  pub whole : rules ≡ before ++ rule ∷ after
  pub asked : All (IsAskedOf x) before
  pub refused : IsAskRefused x (phrase_of rule.question) r

-- why the rules of the text are not judged
pub data IsRulesRefused (x : Expanded) (input : List ℕ) (r : Rejection) : Type 0 where
  -- a line is no rule
  no_rule : (f : RuleFault) → IsBadRule (protocol_text input) x.name f
      → rule_rejection f ≡ Some r → IsRulesRefused x input r
  -- a rule has a name that the protocol does not have
  unknown : (rules : List Rule) → AreRulesOf (protocol_text input) x.name rules
      → IsFirstRefused x rules r → IsRulesRefused x input r

-- it is given the whole input, which begins with the text of the protocol
abbrev pub all_rules : AskOptions → CommandRules
all_rules options = record {
  needs = Input;
  answers = λ x input. IsRulesAnswer x input options;
  refuses = IsRulesRefused;
  is_determined = ⊥;
}
