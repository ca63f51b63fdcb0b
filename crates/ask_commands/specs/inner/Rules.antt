-- How far the rules of a protocol are judged.
use Rattle.std.specs.Prelude.{◌≡◌, ℕ, ◌++◌, List, map, take}
use Rattle.std.specs.List.{All, flat_map, list_any}
use Rattle.bspl_types.specs.declared.expanded.Expanded.{Expanded}
use Rattle.protocol_rules.specs.declared.rule.Rule.{Rule}
use Rattle.protocol_rules.specs.Laws.{said_by}
use Rattle.ask_commands.specs.declared.judged.Judged.{Judged}
use Rattle.ask_commands.specs.declared.options.AskOptions.{AskOptions}
use Rattle.ask_commands.specs.AskAnswer.{asked_protocol_line}
use Rattle.ask_commands.specs.Judgement.{IsRightlyJudged, JudgedRule, is_judged_broken, is_left_open}
use Rattle.ask_commands.specs.Judgement.{judged_rule_text, said_of}

-- the first so many of the rules are judged
pub record HasJudged (x : Expanded) (options : AskOptions) (rules : List Rule) (count : ℕ)
    (so_far : Judged) : Type 0 where
  pub judged : List JudgedRule
  pub one_each : map said_of judged ≡ map said_by (take count rules)
  pub right : All (IsRightlyJudged x options.conflicts) judged
  pub text : so_far.text ≡
      asked_protocol_line x ++ flat_map (judged_rule_text x options.brief) judged
  pub broken : so_far.broken ≡ list_any is_judged_broken judged
  pub unjudged : so_far.unjudged ≡ list_any is_left_open judged
