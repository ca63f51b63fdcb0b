-- A section of a page, as it is written.
use Rattle.std.specs.Prelude.{◌≡◌, ℕ, List, ◌++◌}
use Rattle.bspl_types.specs.declared.expanded.Expanded.{Expanded}
use Rattle.html.specs.Fragment.{Fragment, as_html}
use Rattle.page_sections.specs.RulesSection.{ShowsRules}
use Rattle.protocol_rules.specs.declared.rule.Rule.{Rule}

-- the text is a section of which this holds
pub record IsSection (Shows : List Fragment → Type 0) (text : List ℕ) : Type 0 where
  pub shown : List Fragment
  pub shows : Shows shown
  pub text_is : text ≡ as_html shown

-- the section of the rules, and after it another
pub record AreAfterRules (x : Expanded) (budget : ℕ) (rules : List Rule) (section text : List ℕ)
    : Type 0 where
  pub ruled : List Fragment
  pub judges : ShowsRules x budget rules ruled
  pub text_is : text ≡ as_html ruled ++ section
