-- What is appended of the table of values.
use Rattle.std.specs.Prelude.{◌≡◌, ℕ, List, ◌++◌, Option}
use Rattle.std.specs.List.{AllZip}
use Rattle.bspl_types.specs.declared.event.Event.{Event}
use Rattle.bspl_types.specs.declared.expanded.Expanded.{Expanded}
use Rattle.bspl_types.specs.declared.value.Value.{Value}
use Rattle.html.specs.Fragment.{as_html}
use Rattle.page_sections.specs.WorldSection.{value_table}
use Rattle.report.specs.WorldText.{AreCells}

-- the table is written after a text, with a row for each of the keys
pub record AppendsValues (x : Expanded) (keys : List (List Value)) (run : List Event)
    (old new : List ℕ) : Type 0 where
  pub rows : List (List (Option Value))
  pub are_rows : AllZip (AreCells x run) keys rows
  pub text : new ≡ old ++ as_html (value_table x rows)
