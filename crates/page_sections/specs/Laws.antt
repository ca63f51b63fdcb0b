-- What a section shows. The statement is the contract of a function.
use Rattle.std.specs.Prelude.{◌≡◌, ℕ, List, codes}
use Rattle.std.specs.List.{All, Contains}
use Rattle.ask_commands.specs.Claims.{KeepsRule}
use Rattle.ask_commands.specs.Judgement.{JudgedRule}
use Rattle.bspl_types.specs.declared.event.Event.{Event}
use Rattle.bspl_types.specs.declared.expanded.Expanded.{Expanded}
use Rattle.html.specs.Fragment.{Fragment, Words}
use Rattle.protocol_rules.specs.declared.rule.Rule.{Rule}
use Rattle.page_sections.specs.RulesSection.{ShowsRules, rule_word}
use Rattle.page_sections.specs.RunSection.{ShowsRun}

-- the section of a run has the whole report on it, as words
abbrev pub ReportsAreShown : Type 0
ReportsAreShown =
    (x : Expanded) (run : List Event) (report : List ℕ) (shown : List Fragment) →
    ShowsRun x run report shown → Contains shown (Words report)

-- the word for the rule is `kept` only if the protocol keeps it, and `broken` only if it does not
pub record IsTrulyShown (x : Expanded) (j : JudgedRule) : Type 0 where
  pub kept : rule_word j.sense j.answer ≡ codes "kept" → KeepsRule x j.sense j.question
  pub broken : rule_word j.sense j.answer ≡ codes "broken" → ¬ KeepsRule x j.sense j.question

-- so it is with each rule that is shown
abbrev pub RulesAreShownTruly : Type 0
RulesAreShownTruly =
    (x : Expanded) (budget : ℕ) (rules : List Rule) (shown : List Fragment)
    (shows : ShowsRules x budget rules shown) → All (IsTrulyShown x) shows.judged
