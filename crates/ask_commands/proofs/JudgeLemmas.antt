-- Why the rules of a text are not judged.
use Rattle.std.proofs.Common.{◌≡◌, ℕ, List, None, Some, refl}
use Rattle.bspl_types.specs.declared.expanded.Expanded.{Expanded}
use Rattle.protocol_rules.specs.declared.fault.RuleFault.{RuleFault}
use Rattle.protocol_rules.specs.declared.rule.Rule.{Rule}
use Rattle.protocol_rules.specs.Rules.{AreRulesOf, IsBadRule}
use Rattle.tool_input.specs.declared.answer_error.AnswerError.{AnswerError}
use Rattle.tool_input.specs.declared.answer_error.AnswerError.TheVariants as error
use Rattle.tool_input.specs.Error.{RejectsFor, error_for}
use Rattle.tool_input.specs.Parts.{protocol_text}
use Rattle.ask_commands.specs.RulesAnswer.{IsFirstRefused, IsRulesRefused, rule_rejection}

-- a line is no rule
pub no_rule_refused : (x : Expanded) (input : List ℕ) (fault : RuleFault) → IsBadRule (protocol_text input) x.name fault → RejectsFor (IsRulesRefused x input) (error_for (rule_rejection fault))
no_rule_refused x input fault bad =
    (elim (rule_rejection fault) as (λ o. rule_rejection fault ≡ o → RejectsFor (IsRulesRefused x input) (error_for o)) [
      | None ↦ λ is. tt
      | Some r ↦ λ is. IsRulesRefused.no_rule fault bad is
    ]) refl

-- a rule has an unknown name
pub rules_refused : (x : Expanded) (input : List ℕ) (rules : List Rule) (e : AnswerError) → AreRulesOf (protocol_text input) x.name rules → RejectsFor (IsFirstRefused x rules) e → RejectsFor (IsRulesRefused x input) e
rules_refused x input rules (error.Rejected r) of_text refused = IsRulesRefused.unknown rules of_text refused
rules_refused x input rules error.NoMemory of_text refused = tt
