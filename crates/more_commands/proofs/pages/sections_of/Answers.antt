-- What is given comes after the rules.
use Rattle.std.proofs.Common.{ℕ, List, ◌++◌, ap, ◌∙◌}
use Rattle.html.specs.Fragment.{as_html}
use Rattle.more_commands.proofs.pages.sections_of.Goals as goal

pub returns : goal.returns
returns c =
    let rules = c.in_ok-push_rules.ensures in
    record {
      ruled = rules.shown;
      judges = rules.shows;
      text_is = c.in_ok-append.ensures.ok ∙ ap (λ (ys : List ℕ). ys ++ c.args.section.now) (rules.text ∙ ap (λ (ys : List ℕ). ys ++ as_html rules.shown) c.new-text.ensures);
    }
