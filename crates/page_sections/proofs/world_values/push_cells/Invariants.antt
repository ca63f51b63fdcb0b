-- What has been written.
use Rattle.std.proofs.Common.{◌≡◌, ◌++◌, take}
use Rattle.std.specs.List.{flat_map}
use Rattle.html.specs.Fragment.{as_html}
use Rattle.page_sections.specs.WorldSection.{value_cell}
use Rattle.page_sections.proofs.world_values.push_cells.Given as goal

-- the cells so far are written
abbrev pub invariant-loop-cell : goal.invariant-loop-cell
invariant-loop-cell l = l.text ≡ l.fn.text ++ as_html (flat_map value_cell (take l.cell-index l.cells))
