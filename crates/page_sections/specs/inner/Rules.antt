-- How far the rules of a protocol are shown.
use Rattle.std.specs.Prelude.{◌≡◌, ℕ, List, ◌++◌, map, take}
use Rattle.std.specs.List.{All, flat_map}
use Rattle.ask_commands.specs.Judgement.{IsRightlyJudged, JudgedRule, said_of}
use Rattle.bspl_types.specs.declared.expanded.Expanded.{Expanded}
use Rattle.html.specs.Fragment.{as_html}
use Rattle.protocol_rules.specs.declared.rule.Rule.{Rule}
use Rattle.protocol_rules.specs.Laws.{said_by}
use Rattle.page_sections.specs.RulesSection.{judged_rule_shown}

-- each of the rules is judged rightly, and shown after a text
pub record AreShown (x : Expanded) (budget : ℕ) (rules : List Rule) (old new : List ℕ)
    : Type 0 where
  pub judged : List JudgedRule
  pub one_each : map said_of judged ≡ map said_by rules
  pub right : All (IsRightlyJudged x budget) judged
  pub text : new ≡ old ++ as_html (flat_map (judged_rule_shown x) judged)

-- so are the first so many of them
abbrev pub FirstAreShown : Expanded → ℕ → List Rule → ℕ → List ℕ → List ℕ → Type 0
FirstAreShown x budget rules count old new = AreShown x budget (take count rules) old new
