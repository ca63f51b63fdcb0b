-- The text of lines behind lines.
use Rattle.std.proofs.Common.{◌++◌, ap, ◌∙◌, List, ℕ}
use Rattle.kept_lines.proofs.TextLemmas.{text_joins}
use Rattle.kept_lines.proofs.laws.lines_join.Goals as goal

pub returns : goal.returns
returns c kept more kept_are more_are =
    text_joins kept more kept_are ∙ ap (λ (bytes : List ℕ). kept ++ bytes) more_are
