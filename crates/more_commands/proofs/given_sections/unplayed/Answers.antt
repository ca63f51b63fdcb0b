-- The section alone.
use Rattle.std.proofs.Common.{◌++◌, ℕ, List, refl, ap, ◌∙◌}
use Rattle.html.specs.Fragment.{as_html}
use Rattle.page_sections.specs.WorldSection.{unplayed_section}
use Rattle.more_commands.proofs.given_sections.unplayed.Goals as goal

pub returns : goal.returns
returns c =
    record {
      shown = unplayed_section;
      shows = refl;
      text_is = c.in_ok-push_unplayed.ensures ∙ ap (λ (ys : List ℕ). ys ++ as_html unplayed_section) c.new-text.ensures;
    }
