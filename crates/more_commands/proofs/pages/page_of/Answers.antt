-- The page with the fates that were found, and with the section of the rules before the other.
use Rattle.std.proofs.Common.{◌≡◌, ℕ, List, ◌++◌, ap, ◌∙◌}
use Rattle.html.specs.Fragment.{as_html}
use Rattle.more_commands.proofs.PageLemmas.{one_section}
use Rattle.more_commands.proofs.pages.page_of.Goals as goal

pub returns : goal.returns
returns c =
    λ given shown shows is.
    let sections = c.in_ok-sections.ensures in
    record {
      verdicts = c.args.verdicts.now;
      right = c.requires.right;
      fates = c.in_ok-fates.fates;
      fated = c.in_ok-fates.ensures;
      ruled = sections.ruled;
      judges = sections.judges;
      shown = shown;
      shows = shows;
      text = (rw (c.as_slice.ensures, c.as_slice-2.ensures) at c.in_ok-page_text.ensures) (sections.ruled ++ shown) (one_section sections.ruled shown c.args.section.now c.in_ok-sections.sections sections.text_is is);
      ends = c.verdict_status.ensures;
    }
