-- The section of the run, with its report.
use Rattle.std.proofs.Common.{◌++◌, ℕ, List, ap, ◌∙◌}
use Rattle.html.specs.Fragment.{as_html}
use Rattle.more_commands.proofs.given_sections.run_section.Goals as goal

pub returns : goal.returns
returns c =
    let given = c.in_ok-push_run.ensures in
    record {
      shown = given.shown;
      shows = record { report = c.in_ok-replay.replay.text; reports = c.in_ok-replay.ensures.text; shows = rw c.as_slice.ensures at given.shows };
      text_is = given.text ∙ ap (λ (ys : List ℕ). ys ++ as_html given.shown) c.new-text.ensures;
    }
