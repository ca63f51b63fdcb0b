-- The table of values is its heads, its rows and its end.
use Rattle.std.proofs.Common.{◌≡◌, ℕ, List, [], ◌∷◌, ◌++◌, Option, sym, ap, ◌∙◌}
use Rattle.std.specs.List.{enumerate_from, flat_map}
use Rattle.bspl_types.specs.declared.event.Event.{Event}
use Rattle.bspl_types.specs.declared.expanded.Expanded.{Expanded}
use Rattle.bspl_types.specs.declared.value.Value.{Value}
use Rattle.html.specs.Fragment.{Fragment, Tag, as_html}
use Rattle.html.specs.declared.wording.TheConstants.{TABLE_END}
use Rattle.report.specs.WorldRows.{AppendsRows}
use Rattle.page_sections.specs.WorldSection.{row_tags, value_heads, value_row}
use Rattle.page_sections.specs.inner.Values.{AppendsValues}
use Rattle.page_sections.proofs.GroupLemmas.{then_written, written_items}

-- the table is written
pub values_written : (x : Expanded) (keys : List (List Value)) (run : List Event) (old headed fitted new : List ℕ) → headed ≡ old ++ as_html (value_heads x) → AppendsRows row_tags x run keys headed fitted → new ≡ fitted ++ as_html (Tag TABLE_END.now ∷ []) → AppendsValues x keys run old new
values_written x keys run old headed fitted new begins rows ends =
    let numbered : List (ℕ × List (Option Value)) = enumerate_from 1 rows.rows in
    let shown = flat_map value_row numbered in
    let last : List Fragment = Tag TABLE_END.now ∷ [] in
    let wrote : fitted ≡ headed ++ as_html shown = rows.text ∙ ap (λ (ys : List ℕ). headed ++ ys) (sym (written_items value_row numbered)) in
    record {
      rows = rows.rows;
      are_rows = rows.are_rows;
      text = then_written old fitted new (value_heads x ++ shown) last (then_written old headed fitted (value_heads x) shown begins wrote) ends;
    }
