-- The cell of one parameter more.
use Rattle.std.proofs.Common.{◌++◌, List, ℕ, Option, ap, take, ◌∙◌}
use Rattle.std.specs.List.{flat_map}
use Rattle.bspl_types.specs.declared.value.Value.{Value}
use Rattle.html.specs.Fragment.{as_html}
use Rattle.page_sections.proofs.WritingLemmas.{written_next}
use Rattle.page_sections.specs.WorldSection.{value_cell}
use Rattle.page_sections.proofs.world_values.push_cells.Goals as goal

pub loop-cell-preserved : goal.loop-cell-preserved
loop-cell-preserved c =
    let cells = c.args.cells.now in
    let i = c.loop-cell.cell-index in
    let cell = c.cell-item.result in
    c.in_ok-push_cell.ensures
    ∙ ap (λ (ys : List ℕ). ys ++ as_html (value_cell cell)) c.loop-cell.invariant
    ∙ ap (λ (shown : Option Value). (c.args.text.now ++ as_html (flat_map value_cell (take i cells))) ++ as_html (value_cell shown)) c.cell-item.is
    ∙ written_next value_cell c.args.text.now cells i cell c.loop-cell-test.true
