-- What a page shows beside the rules.
use Rattle.std.specs.Prelude.{List, ℕ}
use Rattle.bspl_types.specs.declared.expanded.Expanded.{Expanded}
use Rattle.protocol_rules.specs.declared.rule.Rule.{Rule}
use Rattle.tool_input.specs.declared.status.Status.{Status}
use Rattle.more_commands.specs.Given.{Given, Gives}
use Rattle.more_commands.specs.PageAnswer.{IsPageAnswer}

-- the page of the rules, and of what the input gives beside them
pub record ShowsBeside (x : Expanded) (rules : List Rule) (input out : List ℕ) (status : Status)
    : Type 0 where
  pub given : Given
  pub gives : Gives x input given
  pub answer : IsPageAnswer x rules given out status
