-- The rules of each task of `ask`.
use Rattle.std.specs.Prelude.{◌≡◌}
use Rattle.tool_input.specs.declared.rejection.Rejection.{Rejection}
use Rattle.tool_input.specs.declared.need.Need.TheVariants.{Nothing}
use Rattle.tool_input.specs.Rules.{CommandRules}
use Rattle.ask_commands.specs.AskAnswer.{question_rules}
use Rattle.ask_commands.specs.AskTask.{AskTask, Check, Judge, Misput, Put}
use Rattle.ask_commands.specs.CheckAnswer.{check_log_rules}
use Rattle.ask_commands.specs.RulesAnswer.{all_rules}

-- what is no question has no answer, whatever the protocol is
abbrev pub misput_rules : Rejection → CommandRules
misput_rules r = record {
  needs = Nothing;
  answers = λ x given out status. ⊥;
  refuses = λ x given reason. reason ≡ r;
  is_determined = ⊥;
}

-- the rules of a task
abbrev pub ask_rules : AskTask → CommandRules
ask_rules (Put phrase options) = question_rules phrase options
ask_rules (Misput r) = misput_rules r
ask_rules Check = check_log_rules
ask_rules (Judge options) = all_rules options
