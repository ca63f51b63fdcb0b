-- The number, the cells and the end are the row.
use Rattle.std.proofs.Common.{◌∷◌, [], ◌++◌, List}
use Rattle.std.specs.List.{flat_map}
use Rattle.std.proofs.lemmas.Result.{on_ok_weaker}
use Rattle.html.specs.Fragment.{Fragment, Number, Tag, fitted}
use Rattle.page_sections.specs.WorldSection.{value_cell}
use Rattle.page_sections.specs.declared.wording.TheConstants.{ROW_END, VALUES_ROW}
use Rattle.page_sections.proofs.GroupLemmas.{then_written}
use Rattle.page_sections.proofs.world_values.TableRowsRowWriter.push_row.Goals as goal

pub returns : goal.returns
returns c =
    let old = c.args.text.now in
    let start = fitted VALUES_ROW.now (Number c.args.number ∷ []) in
    let cells = flat_map value_cell c.args.cells.now in
    let last : List Fragment = Tag ROW_END.now ∷ [] in
    let two = then_written old c.fill.new.text c.push_cells.new.text start cells c.in_ok-fill.ensures c.in_ok-push_cells.ensures in
    on_ok_weaker c.push_fragments.result (then_written old c.push_cells.new.text c.push_fragments.new.text (start ++ cells) last two) c.push_fragments.ensures
